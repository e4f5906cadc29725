-- What a sweep of a group's view takes is left.
use Rattle.gu_rules.proofs.Words.{◌≡◌, ℕ, zero, suc, ◌+◌, ◌<◌, ◌≤◌, ◌==◌, Bool, true, false, cond, List, [], ◌∷◌, sum_by, slice_get, Option, Some, None, refl, sym, ap, ◌∙◌, arith, subst, inl, inr, AllByRecursion, cons_option, filter_map, list_any, option_and_then, option_map, cases_Bool, ltb-true, Decides-eqb, recursion_from_All, sum_by-cons, Later, Later-from_AllPairs, along, along2, same_group-true, both, lots_of, AgreementId, Entry, SweepEntry, Group, Take, agreement_between, Tables, Row, is_open_in, left_of, numbers_from, open_numbers, open_offer_at, row_at, offer_of, ViewOffer, path_after, standing_of, IsSweepOf, group_view, offers_shown, shown}
use Rattle.gu_rules.proofs.ViewLemmas.{shown-numbers}
use Rattle.gu_rules.proofs.Takers.{apart, same}

-- ---- what a view shows exists

-- an offer of a view represents an open offer of its group
pub record Stands (reference : Tables) (rows : List Row) (group : Group) (o : ViewOffer) : Type 0 where
  pub row : Row
  pub at : row_at rows o.number ≡ Some row
  pub own : row.offer.group ≡ group
  pub is_left : 0 < left_of row
  pub lots : o.lots ≡ left_of row
  pub path : o.path ≡ path_after reference row.offer

-- the number of an open offer
abbrev OpenAt : List Row → Group → ℕ → Type 0
OpenAt rows group n = (row : Row) × (row_at rows n ≡ Some row) × (is_open_in group row ≡ true)

open-at : (rows : List Row) (group : Group) (m : ℕ) (rest : List Row) → ((k : ℕ) (row : Row) → slice_get rest k ≡ Some row → row_at rows (m + k) ≡ Some row) → AllByRecursion (OpenAt rows group) (numbers_from m rest group)
open-at rows group m [] at = tt
open-at rows group m (r ∷ rest) at =
    by (is_open_in group r) refl
    (open-at rows group (m + 1) rest (λ k row there. let next : m + suc k ≡ m + 1 + k = omega arith in subst (λ (n : ℕ). row_at rows n ≡ Some row) next (at (suc k) row there)))
  where
    by : (b : Bool) → is_open_in group r ≡ b → AllByRecursion (OpenAt rows group) (numbers_from (m + 1) rest group)
        → AllByRecursion (OpenAt rows group) (cond b (m ∷ numbers_from (m + 1) rest group) (numbers_from (m + 1) rest group))
    by true e more =
        let here : m + zero ≡ m = omega arith in
        ((r, subst (λ (n : ℕ). row_at rows n ≡ Some r) here (at zero r refl), e), more)
    by false e more = more

-- what is shown of it exists
shown-stands : (reference : Tables) (rows : List Row) (group : Group) (n : ℕ) (o : ViewOffer) → OpenAt rows group n → option_and_then (shown reference) (open_offer_at rows n) ≡ Some o → Stands reference rows group o
shown-stands reference rows group n o open_ is = by (agreement_between reference row.offer.firm row.offer.account) (rw open_.1 at is)
  where
    row : Row
    row = open_.0

    by : (found : Option AgreementId)
        → option_map {U = ViewOffer} (λ agreement. record { number = n; lots = left_of row; agreement = agreement; path = path_after reference row.offer }) found ≡ Some o
        → Stands reference rows group o
    by None h = cc
    by (Some agreement) h =
        let one : record { number = n; lots = left_of row; agreement = agreement; path = path_after reference row.offer } ≡ o = cc in
        let parts = both _ _ open_.2 in
        record {
          row = row;
          at = ap (λ (p : ViewOffer). row_at rows p.number) (sym one) ∙ open_.1;
          own = same_group-true row.offer.group group parts.0;
          is_left = ltb-true 0 (left_of row) parts.1;
          lots = ap (λ (p : ViewOffer). p.lots) (sym one);
          path = ap (λ (p : ViewOffer). p.path) (sym one);
        }

all-shown : (reference : Tables) (rows : List Row) (group : Group) (numbers : List ℕ) → AllByRecursion (OpenAt rows group) numbers
    → AllByRecursion (Stands reference rows group) (filter_map (λ n. option_and_then (shown reference) (open_offer_at rows n)) numbers)
all-shown reference rows group [] all = tt
all-shown reference rows group (n ∷ numbers) all = by (option_and_then (shown reference) (open_offer_at rows n)) refl (all-shown reference rows group numbers all.1)
  where
    by : (given : Option ViewOffer) → option_and_then (shown reference) (open_offer_at rows n) ≡ given
        → AllByRecursion (Stands reference rows group) (filter_map (λ n. option_and_then (shown reference) (open_offer_at rows n)) numbers)
        → AllByRecursion (Stands reference rows group) (cons_option given (filter_map (λ n. option_and_then (shown reference) (open_offer_at rows n)) numbers))
    by None e more = more
    by (Some o) e more = (shown-stands reference rows group n o all.0 e, more)

-- everything that a view shows exists
pub offers-stand : (reference : Tables) (history : List Entry) (group : Group) → AllByRecursion (Stands reference (standing_of history) group) (offers_shown reference history group)
offers-stand reference history group =
    let rows = standing_of history in
    subst (AllByRecursion (Stands reference rows group)) (sym (shown-numbers (open_offer_at rows) (shown reference) (open_numbers rows group)))
    (all-shown reference rows group (open_numbers rows group) (open-at rows group 1 rows (λ k row there. let next : suc k ≡ 1 + k = omega arith in subst (λ (n : ℕ). row_at rows n ≡ Some row) next there)))

-- ---- lots

-- a property of each offer holds of the one with a number
named : (P : ViewOffer → Type 0) (offers : List ViewOffer) (n : ℕ) → list_any (λ (o : ViewOffer). o.number == n) offers ≡ true → AllByRecursion P offers → (o : ViewOffer) × (offer_of offers n ≡ Some o) × (o.number ≡ n) × P o
named P [] n has all = cc
named P (o ∷ offers) n has all =
    elim (cases_Bool (o.number == n)) [
      | inl hit ↦ (o, rw hit refl, (Decides-eqb o.number n).0 hit, all.0)
      | inr miss ↦ rw miss (named P offers n (sym (rw miss refl) ∙ has) all.1)
    ]

-- if offers ascend, each take has the lots taken from its offer
own-lots : (takes : List Take) → Later (λ (a b : Take). a.offer < b.offer) takes → AllByRecursion (λ (t : Take). lots_of takes t.offer ≡ t.lots) takes
own-lots [] later = tt
own-lots (take ∷ takes) later =
    let mine : lots_of (take ∷ takes) take.offer ≡ take.lots = rw (same take.offer) refl in (
      mine,
      along2 (λ (t : Take). take.offer < t.offer) (λ (t : Take). lots_of takes t.offer ≡ t.lots) (λ (t : Take). lots_of (take ∷ takes) t.offer ≡ t.lots) takes
          (λ t after own. let on : lots_of (take ∷ takes) t.offer ≡ lots_of takes t.offer = rw (apart take.offer t.offer (λ same. absurd (omega (arith, after, same)))) refl in on ∙ own)
          later.0 (own-lots takes later.1),
    )

-- a take is from an open offer with its lots left
pub record TakesLeft (reference : Tables) (rows : List Row) (group : Group) (offers : List ViewOffer) (t : Take) : Type 0 where
  pub o : ViewOffer
  pub found : offer_of offers t.offer ≡ Some o
  pub number : o.number ≡ t.offer
  pub stands : Stands reference rows group o
  pub lots : t.lots ≤ o.lots
  pub among : (f : ViewOffer → ℕ) → f o ≤ sum_by f offers

pub among : (offers : List ViewOffer) → AllByRecursion (λ (o : ViewOffer). (f : ViewOffer → ℕ) → f o ≤ sum_by f offers) offers
among [] = tt
among (o ∷ offers) = (
  λ f. omega (arith, sum_by-cons f o offers),
  along (λ (p : ViewOffer). (f : ViewOffer → ℕ) → f p ≤ sum_by f offers) (λ (p : ViewOffer). (f : ViewOffer → ℕ) → f p ≤ sum_by f (o ∷ offers)) offers (λ p h f. omega (arith, h f, sum_by-cons f o offers)) (among offers),
)

-- so is each take of a sweep
pub all-left : (reference : Tables) (history : List Entry) (sweep : SweepEntry) → IsSweepOf (group_view reference history sweep.group) sweep
    → AllByRecursion (TakesLeft reference (standing_of history) sweep.group (offers_shown reference history sweep.group)) sweep.takes
all-left reference history sweep right =
    let rows = standing_of history in
    let offers = offers_shown reference history sweep.group in
    let lots = lots_of sweep.takes in
    let Has : ViewOffer → Type 0 = λ o. Stands reference rows sweep.group o × (lots o.number ≤ o.lots) × ((f : ViewOffer → ℕ) → f o ≤ sum_by f offers) in
    let all : AllByRecursion Has offers =
    along2 (λ (o : ViewOffer). Stands reference rows sweep.group o × (lots o.number ≤ o.lots)) (λ (o : ViewOffer). (f : ViewOffer → ℕ) → f o ≤ sum_by f offers) Has offers (λ o a b. (a.0, a.1, b))
    (along2 (Stands reference rows sweep.group) (λ (o : ViewOffer). lots o.number ≤ o.lots) (λ (o : ViewOffer). Stands reference rows sweep.group o × (lots o.number ≤ o.lots)) offers (λ o a b. (a, b))
    (offers-stand reference history sweep.group) (recursion_from_All (λ (o : ViewOffer). lots o.number ≤ o.lots) offers right.right.admissible.offers))
    (among offers) in
    along2 (λ (t : Take). list_any (λ (o : ViewOffer). o.number == t.offer) offers ≡ true) (λ (t : Take). lots t.offer ≡ t.lots) (TakesLeft reference rows sweep.group offers) sweep.takes
    (λ t known own.
    let found = named Has offers t.offer known all in
    let it = found.3 in
    record {
      o = found.0;
      found = found.1;
      number = found.2;
      stands = it.0;
      lots = omega (arith, it.1, ap lots found.2, own);
      among = it.2;
    })
    (recursion_from_All (λ (t : Take). list_any (λ (o : ViewOffer). o.number == t.offer) offers ≡ true) sweep.takes right.right.takes_known)
    (own-lots sweep.takes (Later-from_AllPairs (λ (a b : Take). a.offer < b.offer) sweep.takes right.ascending))
