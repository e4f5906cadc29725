use Rattle.gu_desk.proofs.Words.{◌≡◌, ◌-◌, ◌≤◌, ℕ, true, Some, slice_get}
use Rattle.gu_desk.proofs.auditing.first_without.Given as goal

abbrev pub invariant-loop-place : goal.invariant-loop-place
invariant-loop-place l = (m : ℕ) → 1 ≤ m → m ≤ l.place → slice_get l.with_receipt (m - 1) ≡ Some true
