use Rattle.std.proofs.Common.{rules}
use Rattle.gu_fix.proofs.window.Window.consume.Goals as goal

pub invariant_of-self-else-self-len : goal.invariant_of-self-else-self-len
invariant_of-self-else-self-len c = search rules
