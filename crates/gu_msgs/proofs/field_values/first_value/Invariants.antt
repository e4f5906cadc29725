use Rattle.gu_msgs.proofs.Words.{◌≡◌, first_value}
use Rattle.gu_msgs.proofs.field_values.first_value.Given as goal

abbrev pub invariant-loop-field : goal.invariant-loop-field
invariant-loop-field l = first_value l.tag l.fn.fields ≡ first_value l.tag l.field-iterator
