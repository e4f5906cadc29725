use Rattle.gu_msgs.proofs.Words.{◌≤◌, arith, Side, Buy, Sell}
use Rattle.gu_msgs.specs.CodedValues.{side_letter}
use Rattle.gu_msgs.proofs.PlainTexts.{plain_side_id}
use Rattle.gu_msgs.proofs.notice_fields.push_side_id.Goals as goal

letter_above : (side : Side) → 2 ≤ side_letter side
letter_above Buy = omega arith
letter_above Sell = omega arith

pub push_joined-requires : goal.push_joined-requires
push_joined-requires c =
    rw (c.as_bytes-number.ensures.value, c.format.ensures.text, c.side_letter.ensures)
    (plain_side_id c.args.entry (side_letter c.args.side) c.ranges.entry.fits (letter_above c.args.side))
