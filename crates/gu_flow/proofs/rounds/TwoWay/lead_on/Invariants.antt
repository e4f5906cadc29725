use Rattle.gu_flow.proofs.Words.{◌≡◌, ◌<◌, length, room_inside, AreSearches, level_at, IsQueue, IsTree, KeepsReached}
use Rattle.gu_flow.proofs.rounds.TwoWay.lead_on.Given as goal

abbrev pub invariant-loop-node : goal.invariant-loop-node
invariant-loop-node l = record {
  are : AreSearches (length l.net.first.items) l.self;
  tree : IsTree l.net.arcs.items (room_inside l.net.arcs.items l.allotment l.self.ahead.back) l.self.ahead.from l.self.ahead.marks.items;
  waits : IsQueue l.self.ahead.marks.items l.self.ahead.queue.items l.self.ahead.count;
  keeps : KeepsReached l.fn.self.ahead l.self.ahead;
  same : l.self.back ≡ l.fn.self.back;
  within : l.node < length l.net.first.items;
  reached : 0 < level_at l.self.ahead.marks.items l.node;
  behind : 0 < level_at l.fn.self.back.marks.items l.node;
}

abbrev pub decreases-loop-node : goal.decreases-loop-node
decreases-loop-node l = level_at l.fn.self.back.marks.items l.node
