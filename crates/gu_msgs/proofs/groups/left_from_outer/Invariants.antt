use Rattle.gu_msgs.proofs.Words.{◌≡◌, ◌+◌, length, up_to, is_listed, outer_rows}
use Rattle.gu_msgs.proofs.groups.left_from_outer.Given as goal

abbrev pub invariant-loop-field : goal.invariant-loop-field
invariant-loop-field l = record {
  passed : length (up_to (is_listed (outer_rows l.msg_type)) l.field-iterator) + length l.fn.fields ≡ length (up_to (is_listed (outer_rows l.msg_type)) l.fn.fields) + length l.field-iterator;
  counted : l.left ≡ length l.field-iterator;
}
