-- Among all greatest takes, one is oldest first over the group, and it is oldest first within each agreement.
use Rattle.gu_view.proofs.Words.{◌≡◌, ◌≢◌, ℕ, zero, suc, ◌+◌, ◌-◌, ◌<◌, ◌≤◌, ◌==◌, Bool, true, false, cond, List, [], ◌∷◌, length, get_or, refl, sym, ap, ◌∙◌, arith, inl, inr, All, AllPairs, sum_by, AllByRecursion, cases_eq, cases_lt, cond-true, cond-false, eq-eqb, ne_eqb, get_or_default, recursion_from_All, All-from_recursion, sum_by-cons, has_key, LimitKey, sum_by-add, sum_by-zeros, AgreeOnOlder, IsGreatest, IsOldestFirst, IsOldestGreatest, GroupView, IsView, ViewOffer}

module _ (view : GroupView) (lots others : ℕ → ℕ) (mine : IsOldestGreatest view lots) (theirs : IsOldestGreatest view others) where
  agree : (n i : ℕ) (d : ViewOffer) → (get_or view.offers i d).number < n → i < length view.offers → others (get_or view.offers i d).number ≡ lots (get_or view.offers i d).number
  agree zero i d below inside = absurd (omega (arith, below))
  agree (suc n) i d below inside =
      let older : AgreeOnOlder view.offers (get_or view.offers i d) others lots = λ j e j_in less. agree n j e (omega (arith, less, below)) j_in in
      let back : AgreeOnOlder view.offers (get_or view.offers i d) lots others = λ j e j_in less. sym (older j e j_in less) in
      omega (arith, mine.oldest others theirs.greatest i d inside older, theirs.oldest lots mine.greatest i d inside back)

  pub oldest_greatest_is_one : All (λ o. others o.number ≡ lots o.number) view.offers
  oldest_greatest_is_one i d inside = agree (suc (get_or view.offers i d).number) i d (omega arith) inside

-- sums with equal terms, given a property of each element
sum_by-by : {X : Type 0} (P : X → Type 0) (f g : X → ℕ) (xs : List X) → ((x : X) → P x → f x ≡ g x) → AllByRecursion P xs → sum_by f xs ≡ sum_by g xs
sum_by-by P f g [] same h = refl
sum_by-by P f g (x ∷ xs) same h = omega (arith, same x h.0, sum_by-by P f g xs same h.1, sum_by-cons f x xs, sum_by-cons g x xs)

-- a number is counted only at its offer
counted_once : (offers : List ViewOffer) → AllPairs (λ a b. a.number < b.number) offers → (i : ℕ) (d : ViewOffer) (x : ℕ) → i < length offers → sum_by (λ o. cond (o.number == (get_or offers i d).number) x 0) offers ≡ x
counted_once [] ascending i d x inside = absurd (omega arith)
counted_once (o ∷ offers) ascending zero d x inside =
    let none : sum_by (λ (p : ViewOffer). cond (p.number == o.number) x 0) offers ≡ 0 =
    sum_by-by (λ (p : ViewOffer). o.number < p.number) (λ p. cond (p.number == o.number) x 0) (λ p. 0) offers (λ p above. cond-false (p.number == o.number) x 0 (ne_eqb p.number o.number (λ e. absurd (omega arith))))
    (recursion_from_All (λ (p : ViewOffer). o.number < p.number) offers (λ k e k_in. ascending 0 (suc k) e (omega arith) (omega arith))) ∙ sum_by-zeros offers in
    omega (arith, none, cond-true (o.number == o.number) x 0 (eq-eqb o.number o.number refl), sum_by-cons (λ (p : ViewOffer). cond (p.number == o.number) x 0) o offers)
counted_once (o ∷ offers) ascending (suc i) d x inside =
    let n = (get_or offers i d).number in
    let apart : o.number < n = ascending 0 (suc i) d (omega arith) inside in
    omega (
      arith,
      counted_once offers (λ j k e before k_in. ascending (suc j) (suc k) e (omega arith) (omega arith)) i d x (omega arith),
      cond-false (o.number == n) x 0 (ne_eqb o.number n (λ e. absurd (omega arith))),
      sum_by-cons (λ (p : ViewOffer). cond (p.number == n) x 0) o offers,
    )

-- one lot is moved from a later offer of an agreement to an earlier one
module _ (view : GroupView) (sound : IsView view) (lots : ℕ → ℕ) (i j : ℕ) (d : ViewOffer) (before : i < j) (j_in : j < length view.offers)
    (same : (get_or view.offers i d).agreement ≡ (get_or view.offers j d).agreement) (some : 0 < lots (get_or view.offers j d).number) where
  abbrev first : ViewOffer
  first = get_or view.offers i d

  abbrev last : ViewOffer
  last = get_or view.offers j d

  moved : ℕ → ℕ
  moved n = cond (n == first.number) (lots n + 1) (cond (n == last.number) (lots n - 1) (lots n))

  apart : first.number < last.number
  apart = sound.ascending i j d before j_in

  moved_first : moved first.number ≡ lots first.number + 1
  unfolding moved
  moved_first = cond-true (first.number == first.number) _ _ (eq-eqb first.number first.number refl)

  moved_last : moved last.number ≡ lots last.number - 1
  unfolding moved
  moved_last = cond-false (last.number == first.number) _ _ (ne_eqb last.number first.number (λ e. absurd (omega (arith, apart)))) ∙ cond-true (last.number == last.number) _ _ (eq-eqb last.number last.number refl)

  moved_other : (n : ℕ) → n ≢ first.number → n ≢ last.number → moved n ≡ lots n
  unfolding moved
  moved_other n not_first not_last = cond-false (n == first.number) _ _ (ne_eqb n first.number not_first) ∙ cond-false (n == last.number) _ _ (ne_eqb n last.number not_last)

  record IsTwo (o : ViewOffer) : Type 0 where
    as_first : o.number ≡ first.number → o ≡ first
    as_last : o.number ≡ last.number → o ≡ last

  two : AllByRecursion IsTwo view.offers
  two = recursion_from_All IsTwo view.offers (λ k e k_in.
      let at : (m : ℕ) → m < length view.offers → (get_or view.offers k e).number ≡ (get_or view.offers m d).number → get_or view.offers k e ≡ get_or view.offers m d = λ m m_in is.
      elim (cases_eq k m) [
        | inl here ↦ get_or_default view.offers k e d k_in ∙ ap (λ q. get_or view.offers q d) here
        | inr there ↦ elim (cases_lt k m) [
          | inl less ↦ absurd (omega (arith, sound.ascending k m d less m_in, ap (λ (o : ViewOffer). o.number) (get_or_default view.offers k e d k_in), is))
          | inr more ↦ absurd (omega (arith, sound.ascending m k d (omega arith) k_in, ap (λ (o : ViewOffer). o.number) (get_or_default view.offers k e d k_in), is))
        ]
      ] in
      record { as_first = at i (omega arith); as_last = at j j_in })

  -- the sum under a test of paths is unchanged
  module _ (test : List LimitKey → Bool) where
    abbrev taken : (ℕ → ℕ) → ViewOffer → ℕ
    taken f o = cond (test o.path) (f o.number) 0

    abbrev one_at : ℕ → ViewOffer → ℕ
    one_at n o = cond (o.number == n) (cond (test first.path) 1 0) 0

    one_path : last.path ≡ first.path
    one_path = sym (sound.one_path i j d before j_in same)

    stays : (b c e : Bool) (x y : ℕ) → y ≡ x + 1 → cond b y 0 ≡ cond b x 0 + cond b 1 0
    stays true c e x y is = omega arith
    stays false c e x y is = refl

    each : (o : ViewOffer) → IsTwo o → taken moved o + one_at last.number o ≡ taken lots o + one_at first.number o
    each o is = elim (cases_eq o.number first.number) [
      | inl here ↦
          let b : test o.path ≡ test first.path = ap (λ (p : ViewOffer). test p.path) (is.as_first here) in
          let m : moved o.number ≡ lots o.number + 1 = ap moved here ∙ moved_first ∙ ap (λ n. lots n + 1) (sym here) in
          let at : one_at first.number o ≡ cond (test first.path) 1 0 = cond-true (o.number == first.number) _ _ (eq-eqb o.number first.number here) in
          let off : one_at last.number o ≡ 0 = cond-false (o.number == last.number) _ _ (ne_eqb o.number last.number (λ e. absurd (omega (arith, apart)))) in
          omega (arith, at, off, stays (test o.path) true true (lots o.number) (moved o.number) m, ap {B = ℕ} (λ c. cond c 1 0) b)
      | inr not_first ↦ elim (cases_eq o.number last.number) [
        | inl here ↦
            let b : test o.path ≡ test first.path = ap (λ (p : ViewOffer). test p.path) (is.as_last here) ∙ ap test one_path in
            let m : lots o.number ≡ moved o.number + 1 = omega (arith, ap moved here, moved_last, ap lots here, some) in
            let at : one_at last.number o ≡ cond (test first.path) 1 0 = cond-true (o.number == last.number) _ _ (eq-eqb o.number last.number here) in
            let off : one_at first.number o ≡ 0 = cond-false (o.number == first.number) _ _ (ne_eqb o.number first.number not_first) in
            omega (arith, at, off, stays (test o.path) true true (moved o.number) (lots o.number) m, ap {B = ℕ} (λ c. cond c 1 0) b)
        | inr not_last ↦
            let off : one_at last.number o ≡ 0 = cond-false (o.number == last.number) _ _ (ne_eqb o.number last.number not_last) in
            let none : one_at first.number o ≡ 0 = cond-false (o.number == first.number) _ _ (ne_eqb o.number first.number not_first) in
            omega (arith, off, none, ap (λ x. cond (test o.path) x 0) (moved_other o.number not_first not_last))
      ]
    ]

    sum_stays : sum_by (taken moved) view.offers ≡ sum_by (taken lots) view.offers
    sum_stays =
        let all = sum_by-by IsTwo (λ o. taken moved o + one_at last.number o) (λ o. taken lots o + one_at first.number o) view.offers each two in
        omega (
          arith,
          all,
          sum_by-add (taken moved) (one_at last.number) view.offers,
          sum_by-add (taken lots) (one_at first.number) view.offers,
          counted_once view.offers sound.ascending i d (cond (test first.path) 1 0) (omega arith),
          counted_once view.offers sound.ascending j d (cond (test first.path) 1 0) j_in,
        )

  module _ (best : IsGreatest view lots) (rest : lots first.number < first.lots) where
    fits : (o : ViewOffer) → IsTwo o → lots o.number ≤ o.lots → moved o.number ≤ o.lots
    fits o is most = elim (cases_eq o.number first.number) [
      | inl here ↦ omega (arith, ap moved here, moved_first, ap (λ (p : ViewOffer). p.lots) (is.as_first here), rest)
      | inr not_first ↦ elim (cases_eq o.number last.number) [
        | inl here ↦ omega (arith, ap moved here, moved_last, ap lots here, most)
        | inr not_last ↦ omega (arith, moved_other o.number not_first not_last, most)
      ]
    ]

    moved_greatest : IsGreatest view moved
    moved_greatest = record {
      admissible = record {
        offers = λ k e k_in.
            let is = All-from_two k e k_in in
            fits (get_or view.offers k e) is (best.admissible.offers k e k_in);
        rooms = λ k e k_in. omega (arith, sum_stays (λ path. has_key path (get_or view.rooms k e).key), best.admissible.rooms k e k_in);
      };
      greatest = λ others within. omega (arith, best.greatest others within, sum_stays (λ path. true));
    }
      where
        All-from_two : (k : ℕ) (e : ViewOffer) → k < length view.offers → IsTwo (get_or view.offers k e)
        All-from_two = All-from_recursion IsTwo view.offers two

pub oldest_first_in_agreements : (view : GroupView) (lots : ℕ → ℕ) → IsView view → IsOldestGreatest view lots → IsOldestFirst view lots
oldest_first_in_agreements view lots sound best i j d before j_in same some =
    let o = get_or view.offers i d in
    elim (cases_lt (lots o.number) o.lots) [
      | inl rest ↦
          let m = moved view sound lots i j d before j_in same some in
          let g = moved_greatest view sound lots i j d before j_in same some best.greatest rest in
          let older : AgreeOnOlder view.offers o m lots = λ k e k_in less. moved_other view sound lots i j d before j_in same some (get_or view.offers k e).number (λ e. absurd (omega arith)) (λ e. absurd (omega (arith, sound.ascending i j d before j_in))) in
          absurd (omega (arith, best.oldest m g i d (omega arith) older, moved_first view sound lots i j d before j_in same some))
      | inr full ↦ omega (arith, best.greatest.admissible.offers i d (omega arith), full)
    ]
