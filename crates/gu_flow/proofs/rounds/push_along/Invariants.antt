use Rattle.gu_flow.proofs.Words.{◌<◌, length, level_at}
use Rattle.gu_flow.proofs.RoundPushing.{RoundPushing}
use Rattle.gu_flow.proofs.rounds.push_along.Given as goal

abbrev pub invariant-loop-node : goal.invariant-loop-node
invariant-loop-node l = record {
  pushing : RoundPushing l.net.arcs.items l.fn.allotment l.allotment l.search.from l.search.marks.items l.to l.lots l.node;
  within : l.node < length l.net.first.items;
}

abbrev pub decreases-loop-node : goal.decreases-loop-node
decreases-loop-node l = level_at l.search.marks.items l.node
