use Rattle.gu_view.proofs.Words.{◌≡◌, None, find, not, take, CutLists, has_number, has_key, is_covered, AreMarks}
use Rattle.gu_view.proofs.checker.first_uncovered.Given as goal

abbrev pub invariant-loop-place : goal.invariant-loop-place
invariant-loop-place l =
    (cut : CutLists) → AreMarks l.view.rooms l.keys (λ r. has_key cut.keys r.key) → AreMarks l.view.offers l.numbers (λ o. has_number cut.offers o.number)
    → find (λ o. not (is_covered cut o)) (take l.place l.view.offers) ≡ None
