use Rattle.gu_ref.proofs.OneAnswer as one
use Rattle.gu_ref.proofs.laws.one_answer.Goals as goal

pub returns : goal.returns
returns c = record {
  never_both = λ text reference fault p q. one.accepted_or_refused text reference fault p q;
  one_reference = one.one_reference;
  one_fault = one.one_fault;
}
