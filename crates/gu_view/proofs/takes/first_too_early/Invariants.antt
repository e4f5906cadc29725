use Rattle.gu_view.proofs.Words.{ℕ, AreLots}
use Rattle.gu_view.proofs.TakesLemmas.{IsWalked}
use Rattle.gu_view.proofs.takes.first_too_early.Given as goal

abbrev pub invariant-loop-place : goal.invariant-loop-place
invariant-loop-place l = (lots : ℕ → ℕ) → AreLots l.view.offers l.taken lots → IsWalked l.view.offers l.view.rooms lots l.place l.short
