-- A network laid out by ways: the arcs into its middle, and the arcs out of it.
use Rattle.gu_flow.proofs.Words.{◌≡◌, ℕ, ◌+◌, ◌-◌, ◌<◌, ◌≤◌, ◌==◌, ◌⊎◌, true, cond, List, [], ◌∷◌, Some, None, slice_get, zero, suc, length, refl, sym, ◌∙◌, ap, subst, arith, inl, inr, sum_by-cons, eqb-true, eq-eqb, ne_eqb, cases_eq, or_cases, cond-false, false_from_ne_true, Arc, arc_at, node_of, node_or_sink, node_at}
use Rattle.gu_flow.proofs.Walks.{Walks, has_place, CountsOnce}
use Rattle.gu_flow.proofs.Loads.{IsAlone}

-- each element is at its step
abbrev pub AreStepped : {X : Type 0} → (X → ℕ) → ℕ → List X → Type 0
AreStepped step n [] = Unit {0}
AreStepped step n (x ∷ xs) = (step x ≡ n) × AreStepped step (suc n) xs

pub stepped_at : {X : Type 0} (step : X → ℕ) (n : ℕ) (xs : List X) → AreStepped step n xs → (i : ℕ) (x : X) → slice_get xs i ≡ Some x → step x ≡ n + i
stepped_at step n [] s i x at = cc
stepped_at step n (y ∷ xs) s zero x at = let same : y ≡ x = cc in omega (arith, s.0, ap step same)
stepped_at step n (y ∷ xs) s (suc i) x at = omega (arith, stepped_at step (suc n) xs s.1 i x at)

-- so none occurs twice
later : (step : ℕ → ℕ) (n : ℕ) (places : List ℕ) (k : ℕ) → AreStepped step n places → has_place places k ≡ true → n ≤ step k
later step n [] k s on = cc
later step n (p ∷ places) k s on = elim (or_cases (p == k) (has_place places k) on) [
  | inl here ↦ omega (arith, s.0, ap step (eqb-true p k here))
  | inr there ↦ omega (arith, later step (suc n) places k s.1 there)
]

pub way_once : (step : ℕ → ℕ) (n : ℕ) (way : List ℕ) → AreStepped step n way → CountsOnce way
way_once step n [] s = record { once = λ k x. refl }
way_once step n (p ∷ way) s = record {
  once = λ k x.
      let rest = (way_once step (suc n) way s.1).once k x in
      let sum = sum_by-cons (λ j. cond (j == k) x 0) p way in
      elim (cases_eq p k) [
        | inl same ↦
            let none = false_from_ne_true (has_place way k) (λ on. absurd (omega (arith, later step (suc n) way k s.1 on, s.0, ap step same))) in
            let hit = eq-eqb p k same in
            rw hit (omega (arith, rw hit at sum, cond-false (has_place way k) x 0 none))
        | inr other ↦ let miss = ne_eqb p k other in rw miss (omega (arith, rw miss at sum))
      ];
}

-- a way lays out the arc at an index
pub record IsLaid (arcs : List Arc) (step : ℕ → ℕ) (k : ℕ) : Type 0 where
  pub way : List ℕ
  pub stepped : AreStepped step 0 way
  pub on : slice_get way (step k) ≡ Some k
  pub from : (arc_at arcs k).from ≡ node_at way (step k)
  pub to : (arc_at arcs k).to ≡ node_at way (step k + 1)

-- a way is at the node of an index before its second step or later
node_some : (o : _) (k : ℕ) → node_or_sink o ≡ node_of k → o ≡ Some k
node_some None k at = absurd (omega arith)
node_some (Some p) k at = ap Some (omega arith)

pub comes_to : (way : List ℕ) (i k : ℕ) → node_at way i ≡ node_of k → ((i ≡ 1) × (slice_get way 0 ≡ Some k)) ⊎ ((1 < i) × (slice_get way i ≡ Some k))
comes_to way i k at = elim (cases_eq i 0) [
  | inl none ↦ absurd (let at = rw none at at in omega arith)
  | inr some ↦ elim (cases_eq i 1) [
    | inl one ↦ inl (one, node_some (slice_get way 0) k (rw one at at))
    | inr more ↦ inr (omega arith, node_some (slice_get way i) k (rw (ne_eqb i 0 some, ne_eqb i 1 more) at at))
  ]
]

-- the distance of an index from the middle of its way
abbrev pub distance : (ℕ → ℕ) → ℕ → ℕ
distance step k = (step k - 1) + (1 - step k)

module _ (arcs : List Arc) (step : ℕ → ℕ) (laid : (k : ℕ) → k < length arcs → IsLaid arcs step k) where
  -- the arcs of a way into the node of an index: at which step, and that the index is its own
  comes : (j : ℕ) (j_in : j < length arcs) (i k : ℕ) → node_at (laid j j_in).way i ≡ node_of k
      → ((i ≡ 1) × (step k ≡ 0) × (i ≡ step j + 1 → j ≡ k)) ⊎ ((1 < i) × (step k ≡ i) × (i ≡ step j → j ≡ k))
  comes j j_in i k at =
      let l = laid j j_in in
      elim (comes_to l.way i k at) [
        | inl first ↦ inl (first.0, stepped_at step 0 l.way l.stepped 0 k first.1, λ e. let on : slice_get l.way 0 ≡ Some j = ap (slice_get l.way) (omega arith) ∙ l.on in cc)
        | inr more ↦ inr (more.0, omega (arith, stepped_at step 0 l.way l.stepped i k more.1), λ e. let on : slice_get l.way i ≡ Some j = ap (slice_get l.way) e ∙ l.on in cc)
      ]

  -- only one first arc ends at its node
  pub first_left : (k : ℕ) → k < length arcs → step k ≡ 0 → IsAlone arcs (λ a. a.to) (λ a. a.from) 0 1 (distance step) k
  first_left k k_in first =
      let l = laid k k_in in
      let own : (arc_at arcs k).to ≡ node_of k = l.to ∙ rw first (ap node_or_sink (rw first at l.on)) in
      record {
        not_s = λ e. absurd (omega arith);
        not_t = λ e. absurd (omega arith);
        alone = λ j j_in same. elim (comes j j_in (step j + 1) k (sym (laid j j_in).to ∙ same ∙ own)) [ inl it ↦ it.2 refl | inr it ↦ absurd (omega (arith, it.1)) ];
        earlier = λ j j_in same. elim (comes j j_in (step j) k (sym (laid j j_in).from ∙ same ∙ own)) [ inl it ↦ omega (arith, it.0) | inr it ↦ absurd (omega (arith, it.0, it.1)) ];
      }

  -- only one later arc begins at its node
  pub later_right : (k : ℕ) → k < length arcs → 1 < step k → IsAlone arcs (λ a. a.from) (λ a. a.to) 0 1 (distance step) k
  later_right k k_in late =
      let l = laid k k_in in
      let own : (arc_at arcs k).from ≡ node_of k = l.from ∙ rw (ne_eqb (step k) 0 (λ e. absurd (omega arith)), ne_eqb (step k) 1 (λ e. absurd (omega arith))) (ap node_or_sink l.on) in
      record {
        not_s = λ e. absurd (omega arith);
        not_t = λ e. absurd (omega arith);
        alone = λ j j_in same. elim (comes j j_in (step j) k (sym (laid j j_in).from ∙ same ∙ own)) [ inl it ↦ absurd (omega (arith, it.1)) | inr it ↦ it.2 refl ];
        earlier = λ j j_in same. elim (comes j j_in (step j + 1) k (sym (laid j j_in).to ∙ same ∙ own)) [ inl it ↦ absurd (omega (arith, it.1)) | inr it ↦ omega (arith, it.0, it.1) ];
      }

-- arcs that lead from node to node form a walk
pub walks_from : (arcs : List Arc) (node : ℕ → ℕ) (way : List ℕ) → ((i k : ℕ) → slice_get way i ≡ Some k → (k < length arcs) × ((arc_at arcs k).from ≡ node i) × ((arc_at arcs k).to ≡ node (i + 1)))
    → Walks arcs (node 0) way (node (length way))
walks_from arcs node [] each = refl
walks_from arcs node (k ∷ way) each =
    let e = each 0 k refl in
    (e.0, e.1, subst (λ n. Walks arcs n way (node (suc (length way)))) (sym e.2) (walks_from arcs (λ i. node (suc i)) way (λ i j at. let f = each (suc i) j at in (f.0, f.1, f.2 ∙ ap node (omega arith)))))
