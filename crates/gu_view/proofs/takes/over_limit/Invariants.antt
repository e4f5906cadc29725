use Rattle.gu_view.proofs.Words.{◌≡◌, ℕ, None, find, nat_lt, take, AreLots, lots_under}
use Rattle.gu_view.proofs.takes.over_limit.Given as goal

abbrev pub invariant-loop-place : goal.invariant-loop-place
invariant-loop-place l =
    (lots : ℕ → ℕ) → AreLots l.view.offers l.taken lots → find (λ r. nat_lt r.lots (lots_under l.view.offers r.key lots)) (take l.place l.view.rooms) ≡ None
