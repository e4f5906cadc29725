use Rattle.gu_flow.proofs.Words.{◌+◌, ◌≤◌, room_inside, GoesOn}
use Rattle.gu_flow.proofs.searching.Search.skip.Given as goal

abbrev pub invariant-loop-looked : goal.invariant-loop-looked
invariant-loop-looked l = record {
  on : GoesOn l.net.arcs.items (room_inside l.net.arcs.items l.allotment l.self.back) l.self l.ends;
  less : l.ends + l.looked ≤ l.self.ends;
}
