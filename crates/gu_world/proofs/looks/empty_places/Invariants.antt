use Rattle.std.proofs.Common.{◌≡◌, None, replicate}
use Rattle.gu_world.proofs.looks.empty_places.Given as goal

abbrev pub invariant-loop : goal.invariant-loop
invariant-loop l = l.slots.items ≡ replicate l.counter None
