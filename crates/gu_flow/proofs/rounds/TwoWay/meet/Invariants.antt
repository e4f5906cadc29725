use Rattle.gu_flow.proofs.Words.{◌+◌, length, AreUnderWay, turns_left, KeepsReached}
use Rattle.gu_flow.proofs.rounds.TwoWay.meet.Given as goal

abbrev pub invariant-turns : goal.invariant-turns
invariant-turns l = record {
  under_way : AreUnderWay l.net.arcs.items (length l.net.first.items) l.allotment l.self;
  ahead : KeepsReached l.fn.self.ahead l.self.ahead;
  back : KeepsReached l.fn.self.back l.self.back;
}

abbrev pub decreases-turns : goal.decreases-turns
decreases-turns l = turns_left l.net.arcs.items l.self.ahead + turns_left l.net.arcs.items l.self.back
