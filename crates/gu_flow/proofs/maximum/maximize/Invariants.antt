use Rattle.gu_flow.proofs.Words.{◌≡◌, ◌-◌, length, capacities, value_of, IsFree, IsReady}
use Rattle.gu_flow.proofs.maximum.maximize.Given as goal

abbrev pub invariant-searches : goal.invariant-searches
invariant-searches l = record {
  free : IsFree l.net.arcs.items (length l.net.first.items) l.allotment;
  ready : IsReady (length l.net.first.items) l.search;
  current : length l.current.items ≡ length l.net.first.items;
  way : length l.way.items ≡ length l.net.first.items;
}

abbrev pub decreases-searches : goal.decreases-searches
decreases-searches l = capacities l.net.arcs.items - value_of l.net.arcs.items l.allotment.flow.items
