use Rattle.gu_msgs.proofs.Words.{◌≡◌, ◌+◌, ◌==◌, length, up_to}
use Rattle.gu_msgs.proofs.groups.left_from_tag.Given as goal

abbrev pub invariant-loop-field : goal.invariant-loop-field
invariant-loop-field l = record {
  passed : length (up_to (λ t. t == l.tag) l.field-iterator) + length l.fn.fields ≡ length (up_to (λ t. t == l.tag) l.fn.fields) + length l.field-iterator;
  counted : l.left ≡ length l.field-iterator;
}
