use Rattle.std.proofs.Common.{rules}
use Rattle.gu_flow.proofs.residual.residual_out.Goals as goal

pub returns-then-end-eq1 : goal.returns-then-end-eq1
returns-then-end-eq1 c = search rules
