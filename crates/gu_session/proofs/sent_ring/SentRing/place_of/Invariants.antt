use Rattle.gu_session.proofs.Words.{◌-◌, ◌≤◌, length, take, drop, AreBelow, AreFrom}
use Rattle.gu_session.proofs.sent_ring.SentRing.place_of.Given as goal

-- the index sought is between the two
abbrev pub invariant-loop-low : goal.invariant-loop-low
invariant-loop-low l = record {
  ordered : l.low ≤ l.high;
  within : l.high ≤ length l.self.items;
  below : AreBelow l.number (take l.low l.self.items);
  above : AreFrom l.number (drop l.high l.self.items);
}

abbrev pub decreases-loop-low : goal.decreases-loop-low
decreases-loop-low l = l.high - l.low
