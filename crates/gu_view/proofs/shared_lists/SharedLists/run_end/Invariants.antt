use Rattle.std.proofs.Common.{◌≡◌, ℕ, ◌<◌, ◌≤◌, get_or}
use Rattle.gu_view.proofs.shared_lists.SharedLists.run_end.Given as goal

abbrev pub invariant-loop-end : goal.invariant-loop-end
invariant-loop-end l = record {
  kept : l.kept ≡ get_or l.self-inside.at.items l.first 0;
  alike : (place : ℕ) → l.first ≤ place → place < l.end → get_or l.self-inside.at.items place 0 ≡ l.kept;
}
