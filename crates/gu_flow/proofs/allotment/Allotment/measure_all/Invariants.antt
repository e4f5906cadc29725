use Rattle.gu_flow.proofs.Words.{◌≡◌, ◌<◌, ℕ, length, AreMeasured}
use Rattle.gu_flow.proofs.allotment.Allotment.measure_all.Given as goal

abbrev pub invariant-loop-place : goal.invariant-loop-place
invariant-loop-place l = record {
  same : (l.self.flow ≡ l.fn.self.flow) × (l.self.floors ≡ l.fn.self.floors) × (l.self.regions ≡ l.fn.self.regions);
  size : length l.self.rooms.items ≡ length l.fn.self.rooms.items;
  each : (k : ℕ) → k < l.place → AreMeasured l.net.arcs.items l.self k;
}
