use Rattle.gu_msgs.proofs.PlainTexts.{plain_refusal}
use Rattle.gu_terms.specs.Refusals.{text_of}
use Rattle.gu_msgs.proofs.draft.Draft.push_rejection.Goals as goal

pub push-requires : goal.push-requires
push-requires c = rw (c.get.ensures, c.text.ensures.text) (plain_refusal (text_of c.in-Refused.refusal) c.text.ensures.sound)
