use Rattle.gu_view.proofs.Words.{◌≡◌, ℕ, find, drop, is_bad, numbered, ViewOffer}
use Rattle.gu_view.proofs.MakingLemmas.{bad_after}
use Rattle.gu_view.proofs.making.first_bad.Given as goal

abbrev pub invariant-loop-offer : goal.invariant-loop-offer
invariant-loop-offer l = find (λ (p : ℕ × ViewOffer). is_bad p.0 p.1) (numbered l.offers) ≡ bad_after l.before (drop l.offer-index l.offers)
