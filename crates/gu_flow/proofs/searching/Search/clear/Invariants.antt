use Rattle.gu_flow.proofs.Words.{◌≡◌, ◌<◌, ◌≤◌, ℕ, length, slice_index, level_at}
use Rattle.gu_flow.proofs.searching.Search.clear.Given as goal

abbrev pub invariant-loop-place : goal.invariant-loop-place
invariant-loop-place l = record {
  same : (l.self.back ≡ l.fn.self.back) × (length l.self.marks.items ≡ length l.fn.self.marks.items) × (l.self.queue ≡ l.fn.self.queue) × (l.self.count ≡ l.fn.self.count);
  left : (n : ℕ) → 0 < level_at l.self.marks.items n → (k : ℕ) × ((l.place ≤ k) × (k < l.self.count) × (slice_index l.self.queue.items k ≡ n));
  within : (k : ℕ) → k < l.self.count → slice_index l.self.queue.items k < length l.self.marks.items;
  places : l.self.count ≤ length l.self.queue.items;
}
