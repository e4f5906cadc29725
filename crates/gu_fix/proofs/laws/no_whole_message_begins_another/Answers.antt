use Rattle.std.proofs.Common.{[], ap, sym, ◌∙◌, length, arith}
use Rattle.std.proofs.lemmas.List.{nil_from_length, append-nil, length-append}
use Rattle.gu_fix.proofs.WholeLemmas.{one_message}
use Rattle.gu_fix.proofs.laws.no_whole_message_begins_another.Goals as goal

pub returns : goal.returns
returns c m n rest p q e =
    let same = one_message m n rest [] p q (sym e ∙ sym (append-nil n)) in
    nil_from_length rest (omega (arith, ap length same, ap length e, length-append m rest))
