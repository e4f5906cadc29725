-- A cut that needs each of its members lets no offer round, so the nearest cut holds each offer back as early.
use Rattle.gu_view.proofs.Words.{◌≡◌, ◌≢◌, ℕ, zero, suc, ◌+◌, ◌-◌, ◌<◌, ◌≤◌, ◌==◌, ◌&&◌, not, true, false, Option, Some, None, length, get_or, slice_get, refl, sym, ap, ◌∙◌, subst, arith, inl, inr, All, list_any, or-false, and_parts, cases_Bool, cases_eq, cases_lt, cases_order, eqb-true, false_from_ne_true, ne_eqb, not_from_false, or_cases, or_left, or_right, get_or_default, Any-from_list_any, list_any_at, slice_get_cases, slice_get_past, slice_get-get_or, key_eq-same, CutLists, has_number, has_key, key_eq, path_through, AccountId, AgreementId, FirmId, LimitKey, Exec, Agr, Acct, Carry, Guar, Covers, is_covered, IsLeastCut, IsNearestCut, IsTight, NeedsEach, held_at, holds, without_key, without_offer, step_of, GroupView, IsNested, IsPath, IsView, ViewOffer}
use Rattle.std.proofs.lemmas.Map.Views.{any-filter_same}
use Rattle.gu_view.proofs.HoldLemmas.{any_key, first_hit, held, hits_at, holds_by_key, on_path}
use Rattle.gu_view.proofs.NearestCuts.{IsIn, of_key, of_number}
use Rattle.gu_view.proofs.NestingLemmas.{after_on}
use Rattle.gu_view.proofs.WholePaths.{step_is}

-- on a whole path nothing follows the fifth key, and one agreement's key is there
path_short : (e : FirmId) (a : AgreementId) (c : AccountId) (d : FirmId) (g : Option FirmId) → length (path_through e a c d g) ≤ 5
path_short e a c d (Some g) = omega arith
path_short e a c d None = omega arith

agreement_is : (e : FirmId) (a : AgreementId) (c : AccountId) (d : FirmId) (g : Option FirmId) (x : AgreementId) → has_key (path_through e a c d g) (Agr x) ≡ true → Agr a ≡ Agr x
agreement_is e a c d None x on = key_eq-same (Agr a) (Agr x) (sym (or-false (key_eq (Agr a) (Agr x))) ∙ on)
agreement_is e a c d (Some g) x on = key_eq-same (Agr a) (Agr x) (sym (or-false (key_eq (Agr a) (Agr x))) ∙ on)

module _ (view : GroupView) (sound : IsView view) (nested : IsNested view) where
  path_at : (o : ViewOffer) → IsIn view o → IsPath o
  path_at o h = rw h.is at (nested.paths h.place o h.within)

  own_at : (o : ViewOffer) → IsIn view o → slice_get o.path 1 ≡ Some (Agr o.agreement)
  own_at o h = rw h.is at (sound.own h.place o h.within)

  step_at : (o : ViewOffer) → IsIn view o → (i : ℕ) (k : LimitKey) → slice_get o.path i ≡ Some k → step_of k ≡ i
  step_at o h i k at = let p = path_at o h in step_is p.0 o.agreement p.1 p.2 p.3 i k (ap (λ path. slice_get path i) (sym p.4) ∙ at)

  short : (o : ViewOffer) → IsIn view o → length o.path ≤ 5
  short o h = let p = path_at o h in rw p.4 (path_short p.0 o.agreement p.1 p.2 p.3)

  -- offers under one agreement have one path, and offers with one number are one
  same_path : (a o : ViewOffer) → IsIn view a → IsIn view o → a.agreement ≡ o.agreement → a.path ≡ o.path
  same_path a o ha ho same = elim (cases_order ha.place ho.place) [
    | inl one ↦ ap (λ (x : ViewOffer). x.path) (sym ha.is ∙ get_or_default view.offers ha.place a o ha.within ∙ ap (λ i. get_or view.offers i o) one ∙ ho.is)
    | inr apart ↦ elim apart [
      | inl before ↦ let at_o = get_or_default view.offers ho.place a o ho.within ∙ ho.is in (rw (ha.is, at_o) at (sound.one_path ha.place ho.place a before ho.within)) same
      | inr after ↦ let at_a = get_or_default view.offers ha.place o a ha.within ∙ ha.is in sym ((rw (ho.is, at_a) at (sound.one_path ho.place ha.place o after ha.within)) (sym same))
    ]
  ]

  same_offer : (a o : ViewOffer) → IsIn view a → IsIn view o → a.number ≡ o.number → a ≡ o
  same_offer a o ha ho same = elim (cases_order ha.place ho.place) [
    | inl one ↦ sym ha.is ∙ get_or_default view.offers ha.place a o ha.within ∙ ap (λ i. get_or view.offers i o) one ∙ ho.is
    | inr apart ↦ elim apart [
      | inl before ↦ let at_o = get_or_default view.offers ho.place a o ho.within ∙ ho.is in absurd (omega (arith, rw (ha.is, at_o) at (sound.ascending ha.place ho.place a before ho.within)))
      | inr after ↦ let at_a = get_or_default view.offers ha.place o a ha.within ∙ ha.is in absurd (omega (arith, rw (ho.is, at_a) at (sound.ascending ho.place ha.place o after ha.within)))
    ]
  ]

  -- paths that share a key behind the first go on with the same key, and so on to their ends
  joined : (a o : ViewOffer) → IsIn view a → IsIn view o → (p : ℕ) (k : LimitKey) → 0 < p → slice_get a.path p ≡ Some k → has_key o.path k ≡ true → slice_get o.path (suc p) ≡ slice_get a.path (suc p)
  joined a o ha ho p k behind at on = by_kind k (step_at a ha p k at) at on
    where
      by_kind : (k : LimitKey) → step_of k ≡ p → slice_get a.path p ≡ Some k → has_key o.path k ≡ true → slice_get o.path (suc p) ≡ slice_get a.path (suc p)
      by_kind (Exec x) step at on = absurd (omega (arith, step, behind))
      by_kind (Agr x) step at on =
          let q = path_at o ho in
          let mine : Agr o.agreement ≡ Agr x = agreement_is q.0 o.agreement q.1 q.2 q.3 x (ap (λ path. has_key path (Agr x)) (sym q.4) ∙ on) in
          let here : Some (Agr a.agreement) ≡ Some (Agr x) = sym (own_at a ha) ∙ ap (slice_get a.path) step ∙ at in
          let same : a.agreement ≡ o.agreement = cc in
          ap (λ path. slice_get path (suc p)) (sym (same_path a o ha ho same))
      by_kind (Acct x) step at on =
          let next = rw (ho.is, ha.is) at (nested.carriers ho.place o ho.within ha.place a ha.within x) in
          let on_a = on_path a.path p (Acct x) at in
          subst (λ n. slice_get o.path (suc n) ≡ slice_get a.path (suc n)) step (sym (after_on o (Acct x) 3 refl (path_at o ho) on) ∙ next on on_a ∙ after_on a (Acct x) 3 refl (path_at a ha) on_a)
      by_kind (Carry x) step at on =
          let next = rw (ho.is, ha.is) at (nested.guarantors ho.place o ho.within ha.place a ha.within x) in
          let on_a = on_path a.path p (Carry x) at in
          subst (λ n. slice_get o.path (suc n) ≡ slice_get a.path (suc n)) step (sym (after_on o (Carry x) 4 refl (path_at o ho) on) ∙ next on on_a ∙ after_on a (Carry x) 4 refl (path_at a ha) on_a)
      by_kind (Guar x) step at on = slice_get_past o.path (suc p) (omega (arith, step, short o ho)) ∙ sym (slice_get_past a.path (suc p) (omega (arith, step, short a ha)))

  onward : (a o : ViewOffer) → IsIn view a → IsIn view o → (i : ℕ) → 0 < i → slice_get o.path i ≡ slice_get a.path i → slice_get o.path (suc i) ≡ slice_get a.path (suc i)
  onward a o ha ho i behind same = elim (slice_get_cases a.path i).1 [
    | inl f ↦ joined a o ha ho i f.0 behind f.2 (on_path o.path i f.0 (same ∙ f.2))
    | inr past ↦ elim (slice_get_cases o.path i).1 [
      | inl f ↦ let no : Some f.0 ≡ None = sym f.2 ∙ same ∙ past.1 in cc
      | inr also ↦ slice_get_past o.path (suc i) (omega (arith, also.0)) ∙ sym (slice_get_past a.path (suc i) (omega (arith, past.0)))
    ]
  ]

  further : (a o : ViewOffer) → IsIn view a → IsIn view o → (n i j : ℕ) → 0 < i → i + n ≡ j → slice_get o.path i ≡ slice_get a.path i → slice_get o.path j ≡ slice_get a.path j
  further a o ha ho zero i j behind is same = subst (λ m. slice_get o.path m ≡ slice_get a.path m) (omega arith) same
  further a o ha ho (suc n) i j behind is same = further a o ha ho n (suc i) j (omega arith) (omega arith) (onward a o ha ho i behind same)

  module _ (cut : CutLists) (covers : Covers view cut) where
    covered_at : (o : ViewOffer) → IsIn view o → is_covered cut o ≡ true
    covered_at o h = rw h.is at (covers h.place o h.within)

    -- a member that another member backs up isn't needed: each offer that it covers has a further key of the cut
    module _ (k j : LimitKey) (differs : key_eq j k ≡ false) (has_j : has_key cut.keys j ≡ true) where
      keeps : (x : LimitKey) → key_eq x k ≡ false → has_key cut.keys x ≡ true → has_key (without_key cut k).keys x ≡ true
      keeps x other has =
          any-filter_same (λ y. key_eq y x) (λ y. not (key_eq y k)) true (λ y hit. ap (λ z. not (key_eq z k)) (key_eq-same y x hit) ∙ not_from_false (key_eq x k) other) cut.keys ∙ has

      key_idle : ((o : ViewOffer) → IsIn view o → has_key o.path k ≡ true → has_key o.path j ≡ true) → Covers view (without_key cut k)
      key_idle backed m d inside =
          let o = get_or view.offers m d in
          let h : IsIn view o = record { place = m; within = inside; is = get_or_default view.offers m o d inside } in
          let left = without_key cut k in
          elim (or_cases (has_number cut.offers o.number) (list_any (has_key cut.keys) o.path) (covered_at o h)) [
            | inl itself ↦ or_left (has_number cut.offers o.number) (list_any (has_key left.keys) o.path) itself
            | inr by_key ↦
                let (i, x, i_in, at, hit) = Any-from_list_any (has_key cut.keys) o.path by_key in
                or_right (has_number cut.offers o.number) (list_any (has_key left.keys) o.path) (elim (cases_Bool (key_eq x k)) [
                  | inl same ↦ any_key (has_key left.keys) j o.path (backed o h (list_any_at (λ y. key_eq y k) o.path i x i_in (ap (λ y. key_eq y k) at ∙ same))) (keeps j differs has_j)
                  | inr other ↦ list_any_at (has_key left.keys) o.path i x i_in (ap (has_key left.keys) at ∙ keeps x other hit)
                ])
          ]

      offer_idle : (a : ViewOffer) → IsIn view a → has_key a.path j ≡ true → Covers view (without_offer cut a.number)
      offer_idle a ha backed m d inside =
          let o = get_or view.offers m d in
          let h : IsIn view o = record { place = m; within = inside; is = get_or_default view.offers m o d inside } in
          let left = without_offer cut a.number in
          let keyed : (x : ViewOffer) → list_any (has_key cut.keys) x.path ≡ true → is_covered left x ≡ true = λ x. or_right (has_number left.offers x.number) (list_any (has_key cut.keys) x.path) in
          elim (or_cases (has_number cut.offers o.number) (list_any (has_key cut.keys) o.path) (covered_at o h)) [
            | inr by_key ↦ keyed o by_key
            | inl itself ↦ elim (cases_eq o.number a.number) [
              | inl same ↦ keyed o (any_key (has_key cut.keys) j o.path (ap (λ (x : ViewOffer). has_key x.path j) (same_offer o a h ha same) ∙ backed) has_j)
              | inr other ↦ or_left (has_number left.offers o.number) (list_any (has_key cut.keys) o.path)
                  (any-filter_same (λ y. y == o.number) (λ y. not (y == a.number)) true (λ y hit. not_from_false (y == a.number) (ne_eqb y a.number (λ e. other (sym (eqb-true y o.number hit) ∙ e)))) cut.offers ∙ itself)
            ]
          ]

    module _ (needs : NeedsEach view cut) where
      module _ (a b : ViewOffer) (ha : IsIn view a) (hb : IsIn view b) (later : held_at cut a < held_at cut b)
          (same : slice_get b.path (suc (held_at cut a)) ≡ slice_get a.path (suc (held_at cut a))) where
        abbrev k : LimitKey
        k = get_or a.path (held_at cut a) (Agr a.agreement)

        abbrev j : LimitKey
        j = get_or b.path (held_at cut b) (Agr b.agreement)

        at_a : slice_get a.path (held_at cut a) ≡ Some k
        at_a = slice_get-get_or a.path (held_at cut a) (Agr a.agreement) (held cut a (own_at a ha) (covered_at a ha))

        at_b : slice_get b.path (held_at cut b) ≡ Some j
        at_b = slice_get-get_or b.path (held_at cut b) (Agr b.agreement) (held cut b (own_at b hb) (covered_at b hb))

        -- behind the executing firm's key both have one agreement
        not_first : held_at cut a ≢ 0
        not_first first =
            let next : Some (Agr b.agreement) ≡ Some (Agr a.agreement) = sym (own_at b hb) ∙ (rw first at same) ∙ own_at a ha in
            let agreements : b.agreement ≡ a.agreement = cc in
            let paths = same_path b a hb ha agreements in
            let step : step_of k ≡ 0 = step_at a ha (held_at cut a) k at_a ∙ first in
            let has = sym (holds_by_key cut a k (λ e. absurd (omega (arith, step, e)))) ∙ hits_at (holds cut a) a.path k at_a in
            let at : slice_get b.path 0 ≡ Some k = ap (λ path. slice_get path 0) paths ∙ ap (slice_get a.path) (sym first) ∙ at_a in
            omega (arith, later, first_hit (holds cut b) b.path 0 k at (or_left (has_key cut.keys k) (key_eq k (Agr b.agreement) && has_number cut.offers b.number) has))

        -- else the key that holds the later one backs up what holds the earlier
        none_later : ⊥
        none_later =
            let some : 0 < held_at cut a = omega (arith, not_first) in
            let step_k = step_at a ha (held_at cut a) k at_a in
            let step_j = step_at b hb (held_at cut b) j at_b in
            let has_j = sym (holds_by_key cut b j (λ e. absurd (omega (arith, step_j, later, some, e)))) ∙ hits_at (holds cut b) b.path j at_b in
            let differs : key_eq j k ≡ false = false_from_ne_true (key_eq j k) (λ e. absurd (omega (arith, ap step_of (key_eq-same j k e), step_j, step_k, later))) in
            let backed : (o : ViewOffer) → IsIn view o → has_key o.path k ≡ true → has_key o.path j ≡ true = λ o h on.
            let next = joined a o ha h (held_at cut a) k some at_a on in
            let there = further b o hb h (held_at cut b - suc (held_at cut a)) (suc (held_at cut a)) (held_at cut b) (omega arith) (omega (arith, later)) (next ∙ sym same) in
            on_path o.path (held_at cut b) j (there ∙ at_b) in
            elim (or_cases (has_key cut.keys k) (key_eq k (Agr a.agreement) && has_number cut.offers a.number) (hits_at (holds cut a) a.path k at_a)) [
              | inl by_key ↦ of_key (λ x. Covers view (without_key cut x) → ⊥) cut.keys k needs.keys by_key (key_idle k j differs has_j backed)
              | inr itself ↦
                  let named = (and_parts (key_eq k (Agr a.agreement)) (has_number cut.offers a.number) itself).1 in
                  of_number (λ n. Covers view (without_offer cut n) → ⊥) cut.offers a.number needs.offers named (offer_idle k j differs has_j a ha (backed a ha (on_path a.path (held_at cut a) k at_a)))
            ]

      tight : IsTight view cut
      tight m d inside n e within same =
          let a = get_or view.offers m d in
          let b = get_or view.offers n e in
          let ha : IsIn view a = record { place = m; within = inside; is = get_or_default view.offers m a d inside } in
          let hb : IsIn view b = record { place = n; within = within; is = get_or_default view.offers n b e within } in
          elim (cases_lt (held_at cut a) (held_at cut b)) [
            | inl later ↦ absurd (none_later a b ha hb later same)
            | inr first ↦ first
          ]

pub nearest_cut_holds_earliest : (view : GroupView) (cut others : CutLists) → IsView view → IsNested view → IsNearestCut view cut → IsLeastCut view others → NeedsEach view others
    → All (λ o. held_at cut o ≤ held_at others o) view.offers
nearest_cut_holds_earliest view cut others sound nested mine least needs = mine.earliest others least (tight view sound nested others least.covers needs)
