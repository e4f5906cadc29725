-- If a flow and the loads of walks agree in the middle of a network, they agree everywhere.
use Rattle.gu_flow.proofs.Words.{◌≡◌, ◌≢◌, ℕ, ◌<◌, ◌==◌, ◌⊎◌, cond, List, zero, suc, length, sym, ◌∙◌, ap, arith, inl, inr, AllByRecursion, eqb-true, eq-eqb, same_test, Arc, arc_at, sum_over}
use Rattle.gu_flow.proofs.SumLemmas.{sum_places_by, sum_one_place, at_test}
use Rattle.gu_flow.proofs.Walks.{Walking, load, loads_kept}

-- an index whose arc is the only one here at its node, and the arcs there from the other side are of earlier layers
pub record IsAlone (arcs : List Arc) (here there : Arc → ℕ) (s t : ℕ) (layer : ℕ → ℕ) (k : ℕ) : Type 0 where
  pub not_s : here (arc_at arcs k) ≢ s
  pub not_t : here (arc_at arcs k) ≢ t
  pub alone : (j : ℕ) → j < length arcs → here (arc_at arcs j) ≡ here (arc_at arcs k) → j ≡ k
  pub earlier : (j : ℕ) → j < length arcs → there (arc_at arcs j) ≡ here (arc_at arcs k) → layer j < layer k

-- only the terms of one index
over_alone : (arcs : List Arc) (end : Arc → ℕ) (k : ℕ) (h : ℕ → ℕ) → k < length arcs → ((j : ℕ) → j < length arcs → end (arc_at arcs j) ≡ end (arc_at arcs k) → j ≡ k) → sum_over arcs (λ a. end a == end (arc_at arcs k)) h ≡ h k
unfolding sum_over
over_alone arcs end k h k_in alone =
    sum_places_by (λ j. cond (end (arc_at arcs j) == end (arc_at arcs k)) (h j) 0) (λ j. cond (k == j) (h j) 0) (length arcs)
    (λ j j_in. ap (λ b. cond b (h j) 0) (same_test (end (arc_at arcs j) == end (arc_at arcs k)) (k == j)
    (λ e. eq-eqb k j (sym (alone j j_in (eqb-true (end (arc_at arcs j)) (end (arc_at arcs k)) e))))
    (λ e. eq-eqb (end (arc_at arcs j)) (end (arc_at arcs k)) (ap (λ i. end (arc_at arcs i)) (sym (eqb-true k j e))))))
    ∙ sum_one_place h (length arcs) k k_in

over_same : (arcs : List Arc) (end : Arc → ℕ) (n : ℕ) (f g : ℕ → ℕ) → ((j : ℕ) → j < length arcs → end (arc_at arcs j) ≡ n → f j ≡ g j) → sum_over arcs (λ a. end a == n) f ≡ sum_over arcs (λ a. end a == n) g
unfolding sum_over
over_same arcs end n f g same =
    sum_places_by (λ j. cond (end (arc_at arcs j) == n) (f j) 0) (λ j. cond (end (arc_at arcs j) == n) (g j) 0) (length arcs)
    (λ j j_in. at_test (end (arc_at arcs j) == n) (f j) (g j) (λ e. same j j_in (eqb-true (end (arc_at arcs j)) n e)))

module _ {X : Type 0} (arcs : List Arc) (flow : ℕ → ℕ) (walkers : List X) (way : X → List ℕ) (lots : X → ℕ) (s t : ℕ) (layer : ℕ → ℕ) (each : AllByRecursion (Walking arcs way s t) walkers)
    (kept : (n : ℕ) → n ≢ s → n ≢ t → sum_over arcs (λ a. a.to == n) flow ≡ sum_over arcs (λ a. a.from == n) flow) where
  abbrev IsKept : (ℕ → ℕ) → ℕ → Type 0
  IsKept f n = sum_over arcs (λ a. a.to == n) f ≡ sum_over arcs (λ a. a.from == n) f

  abbrev loads : ℕ → ℕ
  loads = load arcs walkers way lots s t each

  -- conservation at its node gives the flow there, if it is known on the other side
  alone_agrees : (here there : Arc → ℕ) → ((f : ℕ → ℕ) (n : ℕ) → IsKept f n → sum_over arcs (λ a. here a == n) f ≡ sum_over arcs (λ a. there a == n) f) → (k : ℕ) → k < length arcs
      → IsAlone arcs here there s t layer k → ((j : ℕ) → j < length arcs → there (arc_at arcs j) ≡ here (arc_at arcs k) → flow j ≡ loads j) → flow k ≡ loads k
  alone_agrees here there balance k k_in it same =
      let n = here (arc_at arcs k) in
      sym (over_alone arcs here k flow k_in it.alone)
      ∙ balance flow n (kept n it.not_s it.not_t)
      ∙ over_same arcs there n flow loads same
      ∙ sym (balance loads n (loads_kept arcs walkers way lots s t each n it.not_s it.not_t))
      ∙ over_alone arcs here k loads k_in it.alone

  -- each index is in the middle, where flow and load agree, or on one side
  abbrev pub Sided : ℕ → Type 0
  Sided k = (flow k ≡ loads k) ⊎ (IsAlone arcs (λ a. a.to) (λ a. a.from) s t layer k ⊎ IsAlone arcs (λ a. a.from) (λ a. a.to) s t layer k)

  -- so they agree in each layer
  pub agree : ((k : ℕ) → k < length arcs → Sided k) → (n k : ℕ) → k < length arcs → layer k < n → flow k ≡ loads k
  agree sided zero k k_in below = absurd (omega arith)
  agree sided (suc n) k k_in below = elim (sided k k_in) [
    | inl same ↦ same
    | inr side ↦ elim side [
      | inl left ↦ alone_agrees (λ a. a.to) (λ a. a.from) (λ f n is. is) k k_in left (λ j j_in at. agree sided n j j_in (omega (arith, left.earlier j j_in at)))
      | inr right ↦ alone_agrees (λ a. a.from) (λ a. a.to) (λ f n is. sym is) k k_in right (λ j j_in at. agree sided n j j_in (omega (arith, right.earlier j j_in at)))
    ]
  ]
