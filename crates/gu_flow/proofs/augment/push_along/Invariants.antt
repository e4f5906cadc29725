use Rattle.gu_flow.proofs.Augmenting.{Augmenting}
use Rattle.gu_flow.proofs.augment.push_along.Given as goal

abbrev pub invariant-loop-end : goal.invariant-loop-end
invariant-loop-end l = Augmenting l.net.arcs.items l.initial.flow l.flow l.way l.lots l.end-index
