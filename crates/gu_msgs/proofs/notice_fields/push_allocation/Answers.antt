use Rattle.std.proofs.Common.{append_assoc}
use Rattle.gu_msgs.proofs.notice_fields.push_allocation.Goals as goal

pub returns : goal.returns
returns c =
    simp (
      c.in_ok-push_offer.ensures,
      c.in_ok-push_offered.ensures,
      c.in_ok-push_number.ensures,
      c.in_ok-push_name.ensures,
      c.get.ensures.bytes,
      c.get-2.ensures.number,
      append_assoc,
    ) at c.push_number-2.ensures
