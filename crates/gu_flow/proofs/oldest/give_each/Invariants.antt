use Rattle.gu_flow.proofs.Words.{length, AreReady}
use Rattle.gu_flow.proofs.Giving.{Giving}
use Rattle.gu_flow.proofs.oldest.give_each.Given as goal

abbrev pub invariant-loop-number : goal.invariant-loop-number
invariant-loop-number l = record {
  giving : Giving l.view l.net.arcs.items (length l.net.first.items) l.fn.allotment.flow.items l.allotment l.goals l.number;
  ready : AreReady (length l.net.first.items) l.searches;
}
