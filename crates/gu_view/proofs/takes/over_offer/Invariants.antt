use Rattle.gu_view.proofs.Words.{◌≡◌, ℕ, ◌≤◌, None, find, nat_lt, take, sum, sum_by, AreLots}
use Rattle.gu_view.proofs.takes.over_offer.Given as goal

abbrev pub invariant-loop-place : goal.invariant-loop-place
invariant-loop-place l = record {
  first : (lots : ℕ → ℕ) → AreLots l.offers l.taken lots → find (λ o. nat_lt o.lots (lots o.number)) (take l.place l.offers) ≡ None;
  within : sum (take l.place l.taken) ≤ sum_by (λ o. o.lots) (take l.place l.offers);
}
