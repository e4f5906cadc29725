-- A take in its place among the others.
use Rattle.std.proofs.Common.{◌≡◌, ℕ, zero, suc, ◌-◌, ◌<◌, ◌≤◌, List, [], ◌∷◌, ◌++◌, Bool, true, false, nat_lt, All, filter, length, arith, refl, sym, ap, subst, ◌∙◌, get_or, inl, inr, eqb, IsTrue, ◌↔◌}
use Rattle.std.specs.List.{insert, AllWithin}
use Rattle.std.specs.List.Sorted.{IsPartitionedBy, IsPartitionPoint}
use Rattle.std.proofs.lemmas.List.Kept.{AllPairs-cons}
use Rattle.std.proofs.lemmas.Bool.{ltb-true, ltb-false, lt-ltb, le-ltb, cases_eq, cases_lt, eqb-true, eq-eqb}
use Rattle.std.proofs.lemmas.List.{get_or_default}
use Rattle.std.proofs.Math.Nat.{eq-or-lt_of_le}
use Rattle.gu_terms.specs.declared.takes.Take.{Take}
use Rattle.gu_terms.specs.Takes.{IsAscending, IsNamed, IsPlace, with_take}

-- takes from earlier offers come before the others
pub earlier_first : (takes : List Take) (offer : ℕ) → IsAscending takes → IsPartitionedBy (λ t. nat_lt t.offer offer) takes
earlier_first takes offer h i j d le within earlier = lt-ltb _ _ (below (ltb-true _ _ earlier))
  where
    below : (get_or takes j d).offer < offer → (get_or takes i d).offer < offer
    below before = elim (eq-or-lt_of_le le) [ inl e ↦ rw e before | inr lt ↦ omega (arith, h i j d lt within) ]

-- if the last take is earlier, each is
pub IsPlace-last : (takes : List Take) (offer : ℕ) (last : Take) → IsAscending takes → 1 ≤ length takes → last ≡ get_or takes (length takes - 1) last → nat_lt last.offer offer ≡ true → IsPlace takes (length takes) offer
IsPlace-last takes offer last h some is earlier = record {
  within = omega arith;
  before = λ k d low high. ltb-true _ _ (earlier_first takes offer h k (length takes - 1) d (omega arith) (omega arith)
      (ap (λ (t : Take). nat_lt t.offer offer) (get_or_default takes (length takes - 1) d last (omega arith) ∙ sym is) ∙ earlier));
  after = λ k d low high. absurd (omega arith);
}

-- the result of a search for the first take that isn't earlier
pub IsPlace-partition : (takes : List Take) (offer place : ℕ) → place ≤ length takes
    → IsPartitionPoint (λ (t : Take). nat_lt t.offer offer ≡ true) (λ (t : Take). nat_lt t.offer offer ≡ false) takes place → IsPlace takes place offer
IsPlace-partition takes offer place within h = record {
  within = within;
  before = λ k d low high. ltb-true _ _ (h.0 k d low high);
  after = λ k d low high. ltb-false _ _ (h.1 k d low high);
}

-- no element passes
filter-none : {X : Type 0} (p : X → Bool) (xs : List X) → All (λ x. p x ≡ false) xs → filter p xs ≡ []
filter-none p [] h = refl
filter-none p (x ∷ xs) h = rw (h 0 x (omega arith)) (filter-none p xs (λ k d within. h (suc k) d (omega arith)))

-- each element passes
filter-all : {X : Type 0} (p : X → Bool) (xs : List X) → All (λ x. p x ≡ true) xs → filter p xs ≡ xs
filter-all p [] h = refl
filter-all p (x ∷ xs) h = rw (h 0 x (omega arith)) (ap (λ l. x ∷ l) (filter-all p xs (λ k d within. h (suc k) d (omega arith))))

-- if takes don't name the offer, those after its place are from later offers
later : (takes : List Take) (place offer : ℕ) → IsPlace takes place offer → (IsNamed takes offer → ⊥) → AllWithin (λ t. offer < t.offer) takes place (length takes)
later takes place offer h unnamed k d low high = elim (cases_eq offer (get_or takes k d).offer) [
  | inl e ↦ absurd (unnamed (k, get_or takes k d, high, get_or_default takes k (get_or takes k d) d high, sym e))
  | inr apart ↦ omega (arith, h.after k d low high, apart)
]

-- if the offer is named, it is at its place
pub offer_at_place : (takes : List Take) (place offer : ℕ) (d : Take) → IsAscending takes → IsPlace takes place offer → IsNamed takes offer → (place < length takes) × ((get_or takes place d).offer ≡ offer)
offer_at_place takes place offer d asc h (k, t, within, at, is) =
    let same : (get_or takes k t).offer ≡ offer = ap (λ (s : Take). s.offer) at ∙ is in
    let from : place ≤ k = elim (cases_lt k place) [ inl lt ↦ absurd (omega (arith, h.before k t (omega arith) lt)) | inr ge ↦ ge ] in
    let until : k ≤ place = elim (cases_lt place k) [ inl lt ↦ absurd (omega (arith, h.after place t (omega arith) (omega arith), asc place k t lt within)) | inr ge ↦ ge ] in
    let here : k ≡ place = omega arith in
    (omega arith, ap (λ (s : Take). s.offer) (get_or_default takes place d t (omega arith)) ∙ subst (λ (n : ℕ). (get_or takes n t).offer ≡ offer) here same)

-- the offer is named if and only if the take at its place is from it
pub named_at_place : (takes : List Take) (place offer : ℕ) (d : Take) (is_there : Bool) → IsAscending takes → IsPlace takes place offer → place < length takes
    → is_there ≡ eqb (get_or takes place d).offer offer → IsTrue is_there ↔ IsNamed takes offer
named_at_place takes place offer d is_there asc h within told = (
  λ there. (place, get_or takes place d, within, get_or_default takes place (get_or takes place d) d within, eqb-true _ _ (sym told ∙ there)),
  λ named. told ∙ eq-eqb _ _ (offer_at_place takes place offer d asc h named).1,
)

-- a take inserted in its place comes between the earlier and the later ones
pub insert-place : (takes : List Take) (place : ℕ) (t : Take) → IsPlace takes place t.offer → (IsNamed takes t.offer → ⊥) → insert takes place t ≡ with_take takes t
insert-place takes place t h unnamed = go takes place (λ k d low high. h.before k d low high) (later takes place t.offer h unnamed)
  where
    go : (takes : List Take) (place : ℕ) → AllWithin (λ s. s.offer < t.offer) takes 0 place → AllWithin (λ s. t.offer < s.offer) takes place (length takes) → insert takes place t ≡ with_take takes t
    go [] zero before after = refl
    go [] (suc place) before after = refl
    go (s ∷ takes) zero before after =
        let none = filter-none (λ s. nat_lt s.offer t.offer) (s ∷ takes) (λ k d within. le-ltb _ _ (omega (arith, after k d (omega arith) within))) in
        let all = filter-all (λ s. nat_lt t.offer s.offer) (s ∷ takes) (λ k d within. lt-ltb _ _ (after k d (omega arith) within)) in
        sym (ap (λ l. l ++ t ∷ filter (λ s. nat_lt t.offer s.offer) (s ∷ takes)) none ∙ ap (λ l. t ∷ l) all)
    go (s ∷ takes) (suc place) before after =
        let first : s.offer < t.offer = before 0 s (omega arith) (omega arith) in
        let is_first : nat_lt s.offer t.offer ≡ true = lt-ltb _ _ first in
        let not_first : nat_lt t.offer s.offer ≡ false = le-ltb _ _ (omega arith) in
        rw (is_first, not_first) (ap (λ l. s ∷ l) (go takes place (λ k d low high. before (suc k) d (omega arith) (omega arith)) (λ k d low high. after (suc k) d (omega arith) (omega arith))))

-- a property of a list's elements and of another element is one of each after an insertion
All-insert : {X : Type 0} (P : X → Type 0) (xs : List X) (place : ℕ) (x : X) → All P xs → P x → All P (insert xs place x)
All-insert P [] zero x h hx zero d within = hx
All-insert P [] zero x h hx (suc k) d within = absurd (omega arith)
All-insert P [] (suc place) x h hx zero d within = hx
All-insert P [] (suc place) x h hx (suc k) d within = absurd (omega arith)
All-insert P (y ∷ ys) zero x h hx zero d within = hx
All-insert P (y ∷ ys) zero x h hx (suc k) d within = h k d (omega arith)
All-insert P (y ∷ ys) (suc place) x h hx zero d within = h 0 d (omega arith)
All-insert P (y ∷ ys) (suc place) x h hx (suc k) d within = All-insert P ys place x (λ k d within. h (suc k) d (omega arith)) hx k d (omega arith)

-- the offers still ascend
pub insert_ascends : (takes : List Take) (place : ℕ) (t : Take) → IsPlace takes place t.offer → (IsNamed takes t.offer → ⊥) → IsAscending takes → IsAscending (insert takes place t)
insert_ascends takes place t h unnamed asc = go takes place (λ k d low high. h.before k d low high) (later takes place t.offer h unnamed) asc
  where
    go : (takes : List Take) (place : ℕ) → AllWithin (λ s. s.offer < t.offer) takes 0 place → AllWithin (λ s. t.offer < s.offer) takes place (length takes) → IsAscending takes → IsAscending (insert takes place t)
    go [] zero before after asc = λ i j d lt within. absurd (omega arith)
    go [] (suc place) before after asc = λ i j d lt within. absurd (omega arith)
    go (s ∷ takes) zero before after asc = AllPairs-cons (λ a b. a.offer < b.offer) t (s ∷ takes) (λ k d within. after k d (omega arith) within) asc
    go (s ∷ takes) (suc place) before after asc =
        AllPairs-cons (λ a b. a.offer < b.offer) s (insert takes place t)
        (All-insert (λ b. s.offer < b.offer) takes place t (λ k d within. asc 0 (suc k) d (omega arith) (omega arith)) (before 0 s (omega arith) (omega arith)))
        (go takes place (λ k d low high. before (suc k) d (omega arith) (omega arith)) (λ k d low high. after (suc k) d (omega arith) (omega arith)) (λ i j d lt within. asc (suc i) (suc j) d (omega arith) (omega arith)))
