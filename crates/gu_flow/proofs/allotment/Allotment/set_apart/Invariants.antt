use Rattle.std.proofs.Common.{◌≡◌, ◌≢◌, ◌<◌, ℕ, length, slice_index}
use Rattle.gu_flow.proofs.allotment.Allotment.set_apart.Given as goal

abbrev pub invariant-loop-place : goal.invariant-loop-place
invariant-loop-place l = record {
  size : length l.self.regions.items ≡ length l.fn.self.regions.items;
  flow : (l.self.flow ≡ l.fn.self.flow) × (l.self.floors ≡ l.fn.self.floors) × (l.self.rooms ≡ l.fn.self.rooms);
  inside : (k : ℕ) → k < l.place → slice_index l.self.regions.items (slice_index l.search.queue.items k) ≡ l.region;
  outside : (n : ℕ) → ((k : ℕ) → k < l.place → slice_index l.search.queue.items k ≢ n) → slice_index l.self.regions.items n ≡ slice_index l.fn.self.regions.items n;
}
