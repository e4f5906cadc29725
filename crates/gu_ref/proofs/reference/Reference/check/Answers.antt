use Rattle.std.proofs.Common.{rules}
use Rattle.gu_ref.proofs.reference.Reference.check.Goals as goal

pub returns-then-is_own : goal.returns-then-is_own
returns-then-is_own c = search rules

pub returns-then-is_twice : goal.returns-then-is_twice
returns-then-is_twice c = search rules
