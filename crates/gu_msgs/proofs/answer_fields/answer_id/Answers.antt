use Rattle.std.proofs.Common.{append_assoc}
use Rattle.gu_msgs.proofs.PlainTexts.{plain_answer_id}
use Rattle.gu_msgs.proofs.answer_fields.answer_id.Goals as goal

pub returns-clause-plain : goal.returns-clause-plain
returns-clause-plain c =
    simp (
      c.in_ok-push_decimal.ensures,
      c.in_ok-push.ensures.items,
      c.in_ok-extend_from_slice.ensures.items,
      c.get-bytes.ensures.bytes,
      c.in_ok-text.ensures.items,
      append_assoc,
    ) (plain_answer_id c.args.id c.args.place c.get-bytes.ensures.sound c.ranges.place.fits)
