use Rattle.std.proofs.Common.{append_assoc}
use Rattle.gu_msgs.proofs.answer_fields.push_position.Goals as goal

pub returns : goal.returns
returns c =
    simp (
      c.in_ok-push_answer_ids.ensures,
      c.in_ok-push_number.ensures,
      c.in_ok-push_day.ensures,
      c.in_ok-push_name.ensures,
      c.get.ensures.bytes,
      c.in_ok-push_name-2.ensures,
      c.get-2.ensures.bytes,
      append_assoc,
    ) at c.push_quantities.ensures
