use Rattle.std.proofs.Common.{◌≡◌}
use Rattle.gu_msgs.specs.Values.{first_value}
use Rattle.gu_knocks.specs.declared.guard.TheConstants.{PASSWORD}
use Rattle.gu_knocks.proofs.guard.password.Given as goal

abbrev pub invariant-loop-field : goal.invariant-loop-field
invariant-loop-field l = first_value PASSWORD l.fn.fields ≡ first_value PASSWORD l.field-iterator
