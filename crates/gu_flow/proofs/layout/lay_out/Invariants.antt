use Rattle.std.proofs.Common.{◌≡◌, length}
use Rattle.gu_flow.proofs.ArcLists.{IsLaidOut}
use Rattle.gu_flow.proofs.layout.lay_out.Given as goal

abbrev pub invariant-loop-place : goal.invariant-loop-place
invariant-loop-place l = record {
  so_far : length l.arcs.items ≡ l.place;
  laid : IsLaidOut l.view l.arcs.items;
}
