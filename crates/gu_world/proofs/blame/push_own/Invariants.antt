use Rattle.std.proofs.Common.{◌≡◌, ◌++◌, replicate}
use Rattle.gu_world.proofs.blame.push_own.Given as goal

abbrev pub invariant-loop : goal.invariant-loop
invariant-loop l = l.own.items ≡ l.fn.own.items ++ replicate l.counter l.is_own
