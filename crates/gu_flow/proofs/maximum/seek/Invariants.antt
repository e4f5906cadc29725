use Rattle.gu_flow.proofs.Words.{length, room_inside, turns_left, IsSourceSearch}
use Rattle.gu_flow.proofs.maximum.seek.Given as goal

abbrev pub invariant-looks : goal.invariant-looks
invariant-looks l = IsSourceSearch l.net.arcs.items (length l.net.first.items) (room_inside l.net.arcs.items l.allotment l.search.back) l.search

abbrev pub decreases-looks : goal.decreases-looks
decreases-looks l = turns_left l.net.arcs.items l.search
