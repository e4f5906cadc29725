use Rattle.gu_msgs.proofs.PlainTexts.{plain_number}
use Rattle.gu_msgs.proofs.draft.Draft.push_number.Goals as goal

pub push-requires : goal.push-requires
push-requires c = rw (c.as_bytes.ensures.value, c.format.ensures.text) (plain_number c.args.number c.ranges.number.fits)
