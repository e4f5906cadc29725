-- Two sweeps of one view take the same lots from each offer.
use Rattle.gu_script.proofs.Words.{◌≡◌, ℕ, Bool, true, false, ◌||◌, List, [], ◌∷◌, IsTrue, refl, sym, ap, ◌∙◌, subst, arith, inl, inr, AllByRecursion, recursion_from_All, SweepEntry, GroupView, ViewOffer}
use Rattle.std.proofs.lemmas.Bool.{cases_eq, ne_eqb}
use Rattle.std.proofs.lemmas.List.Sums.{sum_by-cons}
use Rattle.gu_terms.specs.Takes.{lots_of}
use Rattle.gu_terms.specs.declared.takes.Take.{Take}
use Rattle.gu_view.specs.Check.{has_offer}
use Rattle.gu_view.specs.Takes.{total}
use Rattle.gu_view.proofs.OldestGreatest.{oldest_greatest_is_one}
use Rattle.gu_rules.specs.Sweeps.{IsSweepOf}

-- ---- of the view's offers

same_total : (offers : List ViewOffer) (lots others : ℕ → ℕ) → AllByRecursion (λ (o : ViewOffer). others o.number ≡ lots o.number) offers → total offers others ≡ total offers lots
same_total [] lots others h = refl
same_total (o ∷ offers) lots others h =
    omega (arith, h.0, same_total offers lots others h.1, sum_by-cons (λ (p : ViewOffer). lots p.number) o offers, sum_by-cons (λ (p : ViewOffer). others p.number) o offers)

-- ---- of every number

same_at : (offers : List ViewOffer) (lots others : ℕ → ℕ) (n : ℕ) → AllByRecursion (λ (o : ViewOffer). others o.number ≡ lots o.number) offers → has_offer offers n ≡ true → others n ≡ lots n
same_at [] lots others n h there = absurd cc
same_at (o ∷ offers) lots others n h there = elim (cases_eq o.number n) [
  | inl same ↦ subst (λ (m : ℕ). others m ≡ lots m) same h.0
  | inr apart ↦ same_at offers lots others n h.1 (sym (ap (λ b. b || has_offer offers n) (ne_eqb o.number n apart)) ∙ there)
]

-- of an offer that the view lacks nothing is taken
none_at : (offers : List ViewOffer) (takes : List Take) (n : ℕ) → AllByRecursion (λ (t : Take). IsTrue (has_offer offers t.offer)) takes → has_offer offers n ≡ false → lots_of takes n ≡ 0
none_at offers [] n h lacks = refl
none_at offers (t ∷ takes) n h lacks = elim (cases_eq t.offer n) [
  | inl same ↦ absurd (let there : has_offer offers t.offer ≡ false = subst (λ (m : ℕ). has_offer offers m ≡ false) (sym same) lacks in let none : false ≡ true = subst IsTrue there h.0 in cc)
  | inr apart ↦ rw (ne_eqb t.offer n apart) (none_at offers takes n h.1 lacks)
]

module _ (view : GroupView) (sweep other : SweepEntry) (mine : IsSweepOf view sweep) (theirs : IsSweepOf view other) where
  pub along : AllByRecursion (λ (o : ViewOffer). lots_of other.takes o.number ≡ lots_of sweep.takes o.number) view.offers
  along = recursion_from_All (λ (o : ViewOffer). lots_of other.takes o.number ≡ lots_of sweep.takes o.number) view.offers (oldest_greatest_is_one view (lots_of sweep.takes) (lots_of other.takes) mine.oldest theirs.oldest)

  pub same_lots : other.lots ≡ sweep.lots
  same_lots = sym theirs.right.taken ∙ same_total view.offers (lots_of sweep.takes) (lots_of other.takes) along ∙ mine.right.taken

  pub same_takes : (n : ℕ) → lots_of other.takes n ≡ lots_of sweep.takes n
  same_takes n = by (has_offer view.offers n) refl
    where
      known : (s : SweepEntry) → IsSweepOf view s → AllByRecursion (λ (t : Take). IsTrue (has_offer view.offers t.offer)) s.takes
      known s is = recursion_from_All (λ (t : Take). IsTrue (has_offer view.offers t.offer)) s.takes is.right.takes_known

      by : (b : Bool) → has_offer view.offers n ≡ b → lots_of other.takes n ≡ lots_of sweep.takes n
      by true e = same_at view.offers (lots_of sweep.takes) (lots_of other.takes) n along e
      by false e = none_at view.offers other.takes n (known other theirs) e ∙ sym (none_at view.offers sweep.takes n (known sweep mine) e)
