use Rattle.std.proofs.Common.{append_assoc}
use Rattle.gu_msgs.proofs.notice_fields.push_report.Goals as goal

pub returns : goal.returns
returns c =
    simp (
      c.in_ok-push_side_id.ensures,
      c.in_ok-push_id.ensures,
      c.in_ok-push_trade.ensures,
      c.in_ok-push_number.ensures,
      c.in_ok-push_number-2.ensures,
      c.side_number.ensures,
      c.get.ensures.bytes,
      append_assoc,
    ) at c.push_name.ensures
