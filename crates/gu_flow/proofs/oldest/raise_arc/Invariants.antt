use Rattle.gu_flow.proofs.Words.{◌-◌, length, slice_index, AreReady}
use Rattle.gu_flow.proofs.Raising.{Raising}
use Rattle.gu_flow.proofs.oldest.raise_arc.Given as goal

abbrev pub invariant-rounds : goal.invariant-rounds
invariant-rounds l = record {
  raising : Raising l.net.arcs.items (length l.net.first.items) l.fn.allotment.flow.items l.fn.allotment.floors.items l.allotment l.place l.goal;
  ready : AreReady (length l.net.first.items) l.searches;
}

abbrev pub decreases-rounds : goal.decreases-rounds
decreases-rounds l = l.goal - slice_index l.allotment.floors.items l.place
