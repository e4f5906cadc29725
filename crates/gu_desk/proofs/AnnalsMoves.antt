-- Each step of a desk's history preserves what is known of it.
use Rattle.gu_desk.proofs.Words.{◌≡◌, ◌≢◌, ℕ, zero, suc, List, [], ◌∷◌, ◌++◌, set, true, false, true≢false, refl, sym, ap, ◌∙◌, subst, ⊎_elim, append_assoc, append-nil, Entry}
use mathlib.Core.Option.{some, some-ne-none, some-injective}
use mathlib.Core.List.{IsPrefix}
use lib.ListN.{get_elem?}
use Rattle.atomic_table.specs.Table.{Me, keeps, opening, Allows, Splits, Joins}
use Rattle.atomic_table.proofs.Lists.{at_set, at_snoc, set_again}
use Rattle.gu_desk.specs.declared.annals.Known.{Known}
use Rattle.gu_desk.specs.Annals.{keeper, beginning, beside, Fits, Kept, Added, Compared}

-- a prefix of a history is one of a longer history
prefix_longer : (xs ys more : List Entry) → IsPrefix xs ys → IsPrefix xs (ys ++ more)
prefix_longer xs ys more p = (p.0 ++ more, sym (append_assoc xs p.0 more) ∙ ap (λ (w : List Entry). w ++ more) p.1)

off : false ≡ true → ⊥
off e = true≢false (sym e)

-- one party's knowledge changes, and the others' still fits
fits_set : (seat : ℕ) (log : List Entry) (views : List Known) (by : ℕ) (w : Known)
    → ((j : ℕ) (u : Known) → j ≢ by → get_elem? views j ≡ some u → Fits seat log j u)
    → Fits seat log by w
    → (j : ℕ) (u : Known) → get_elem? (set views by w) j ≡ some u → Fits seat log j u
fits_set seat log views by w others mine j u e =
    ⊎_elim
    (λ (x : (j ≡ by) × (w ≡ u)). subst (λ (y : ℕ × Known). Fits seat log y.0 y.1) (λ i. (sym x.0 i, x.1 i)) mine)
    (λ (x : (j ≢ by) × (get_elem? views j ≡ some u)). others j u x.0 x.1)
    (at_set views by j w u e)

module _ {S : Type 0} where
  -- at first only the keeper knows something
  pub begins : (xs : List S) (words : List ℕ) (log : List Entry) → Kept (opening words xs (keeper log))
  begins xs words log = (0, log, one)
    where
      one : (by : ℕ) (v : Known) → get_elem? (keeper log ∷ []) by ≡ some v → Fits 0 log by v
      one zero v e = subst (Fits 0 log 0) (some-injective _ _ e) ((λ _. (refl, refl)), (log, refl))
      one (suc by) v e = absurd (some-ne-none v (sym e))

  -- the keeper adds entries
  pub adds : (slots by : ℕ) (me : Me S Known) (more : List Entry) → me.0.keeps ≡ true
      → Allows Kept slots by me 0 (λ n. n) (Added more me)
  adds slots by me more is t h size at small =
      let mine = h.2 by me.0 at in
      let known = mine.0 is in
      let w : Known = record { keeps = me.0.keeps; log = me.0.log ++ more; front = me.0.front } in (
        w,
        keeps,
        tt,
        (
          h.0,
          h.1 ++ more,
          fits_set h.0 (h.1 ++ more) t.views by w
              (λ j u apart e. let theirs = h.2 j u e in ((λ k. absurd (apart ((theirs.0 k).0 ∙ sym known.0))), prefix_longer u.front h.1 more theirs.1))
              ((λ _. (known.0, ap (λ (l : List Entry). l ++ more) known.1)), prefix_longer me.0.front h.1 more mine.1),
        ),
        refl,
      )

  -- the keeper compares the front that it has taken in
  pub compares : (slots by : ℕ) (me : Me S Known)
      → Allows Kept slots by me 0 (λ n. n) (Compared me)
  compares slots by me t h size at small =
      let mine = h.2 by me.0 at in (
        me.0,
        keeps,
        tt,
        (h.0, h.1, fits_set h.0 h.1 t.views by me.0 (λ j u apart e. h.2 j u e) mine),
        (refl, λ is. subst (IsPrefix me.0.front) (sym (mine.0 is).1) mine.1),
      )

  -- a party makes a front, which is a prefix of any history that its knowledge fits
  makes_front : (by : ℕ) (v : Known) (front : List Entry) → ((seat : ℕ) (log : List Entry) → Fits seat log by v → IsPrefix front log)
      → Splits {S = S} Kept by v v (beginning front)
  makes_front by v front is t h at = (
    h.0,
    h.1,
    λ j u e. ⊎_elim
        (λ was. h.2 j u (subst (λ (l : List Known). get_elem? l j ≡ some u) (set_again t.views by v at) was))
        (λ (same : beginning front ≡ u). subst (Fits h.0 h.1 j) same ((λ k. absurd (off k)), is h.0 h.1 (h.2 by v at)))
        (at_snoc (set t.views by v) (beginning front) u j e),
  )

  -- the keeper makes a front of the first entries
  pub cuts : (by : ℕ) (v : Known) (front : List Entry) → v.keeps ≡ true → IsPrefix front v.log → Splits {S = S} Kept by v v (beginning front)
  cuts by v front is p = makes_front by v front (λ seat log mine. subst (IsPrefix front) (mine.0 is).1 p)

  -- the keeper makes a front of all entries
  pub tells : (by : ℕ) (v : Known) → v.keeps ≡ true → Splits {S = S} Kept by v v (beginning v.log)
  tells by v is = makes_front by v v.log (λ seat log mine. ([], append-nil v.log ∙ (mine.0 is).1))

  -- a front makes another
  pub copies : (by : ℕ) (v : Known) → Splits {S = S} Kept by v v (beginning v.front)
  copies by v = makes_front by v v.front (λ seat log mine. mine.1)

  -- the keeper takes a front in
  pub takes_in : (by : ℕ) (v : Known) (other : ℕ) (u : Known) → v.keeps ≡ true → Joins {S = S} Kept by v other u (beside v u) (beginning [])
  takes_in by v other u is t h at apart there =
      let w = beside v u in
      let mine = (h.2 by v at).0 is in
      let theirs = ⊎_elim (λ (x : (other ≡ by) × (w ≡ u)). absurd (apart x.0)) (λ (x : (other ≢ by) × (get_elem? t.views other ≡ some u)). h.2 other u x.1) (at_set t.views by other w u there) in (
        h.0,
        h.1,
        fits_set h.0 h.1 (set t.views by w) other (beginning [])
            (λ j y _ e. fits_set h.0 h.1 t.views by w (λ i z _ e'. h.2 i z e') ((λ _. mine), theirs.1) j y e)
            ((λ k. absurd (off k)), (h.1, refl)),
      )
