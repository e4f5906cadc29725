-- The total brought by many walks is the capacity of the arcs out of a closed set of nodes.
use Rattle.gu_flow.proofs.Words.{◌≡◌, ℕ, ◌+◌, ◌*◌, ◌/◌, ◌%◌, ◌<◌, ◌==◌, ◌&&◌, not, Bool, true, false, cond, List, [], ◌∷◌, length, get_or, refl, sym, ◌∙◌, ap, arith, inl, inr, AllByRecursion, cond-false, cond-true, and_parts, and_from, cases_Bool, not-true, not_from_false, or_left, or_right, eq-eqb, ne_eqb, Arc, leads_out, arc_at, places, sum_over, IsWithin, IsClosed, sum_by-add, sum_by-zeros}
use Rattle.std.specs.List.{sum_by}
use Rattle.gu_flow.proofs.SumLemmas.{sum_by-by, sum_places_by, at_test, cond_same}
use Rattle.gu_flow.proofs.Walks.{Walks, has_place, Walking, way_sum, along_walk, load, by_walks}

-- an arc leads back into the reached nodes
abbrev pub leads_back : (ℕ → Bool) → Arc → Bool
leads_back reached a = not (reached a.from) && reached a.to

leaves : (b c : Bool) (x : ℕ) → cond (not b && c) x 0 + cond b x 0 ≡ cond (b && not c) x 0 + cond c x 0
leaves true true x = refl
leaves true false x = omega arith
leaves false true x = omega arith
leaves false false x = refl

-- a walk leaves once more than it comes back
walk_leaves : (arcs : List Arc) (reached : ℕ → Bool) (s t : ℕ) (way : List ℕ) (x : ℕ) → reached s ≡ true → reached t ≡ false → Walks arcs s way t → way_sum arcs (leads_out reached) way x ≡ way_sum arcs (leads_back reached) way x + x
walk_leaves arcs reached s t way x from_s not_t walk =
    let whole : way_sum arcs (leads_back reached) way x + cond (reached s) x 0 ≡ way_sum arcs (leads_out reached) way x + cond (reached t) x 0 =
    along_walk arcs (leads_back reached) (leads_out reached) reached x (λ a. leaves (reached a.from) (reached a.to) x) way s t walk in
    omega (arith, cond-true (reached s) x 0 from_s, cond-false (reached t) x 0 not_t)

-- an index of the way at which an arc leads out
pub record LeadsOut (arcs : List Arc) (reached : ℕ → Bool) (way : List ℕ) : Type 0 where
  pub place : ℕ
  pub place_in : place < length arcs
  pub on_way : has_place way place ≡ true
  pub out : leads_out reached (arc_at arcs place) ≡ true

-- a walk from a reached node to one that isn't leads out somewhere
pub walk_leads_out : (arcs : List Arc) (reached : ℕ → Bool) (way : List ℕ) (a b : ℕ) → Walks arcs a way b → reached a ≡ true → reached b ≡ false → LeadsOut arcs reached way
walk_leads_out arcs reached [] a b walk from to = let same : reached a ≡ reached b = ap reached walk in cc
walk_leads_out arcs reached (k ∷ way) a b (k_in, from, walk) here there = elim (cases_Bool (reached (arc_at arcs k).to)) [
  | inl on ↦
      let rest = walk_leads_out arcs reached way (arc_at arcs k).to b walk on there in
      record { place = rest.place; place_in = rest.place_in; on_way = or_right (k == rest.place) (has_place way rest.place) rest.on_way; out = rest.out }
  | inr off ↦ record {
    place = k;
    place_in = k_in;
    on_way = or_left (k == k) (has_place way k) (eq-eqb k k refl);
    out = and_from (reached (arc_at arcs k).from) (not (reached (arc_at arcs k).to)) (ap reached from ∙ here) (not_from_false (reached (arc_at arcs k).to) off);
  }
]

-- an arc out of the reached nodes is full, and one back is empty
module _ (arcs : List Arc) (flow : List ℕ) (reached : ℕ → Bool) (w : IsWithin arcs flow) (closed : IsClosed arcs flow reached) (k : ℕ) (k_in : k < length arcs) where
  pub full : reached (arc_at arcs k).from ≡ true → reached (arc_at arcs k).to ≡ false → get_or flow k 0 ≡ (arc_at arcs k).capacity
  full from to =
      let tail : (2 * k) % 2 == 0 ≡ true = eq-eqb ((2 * k) % 2) 0 (omega arith) in
      let place : 2 * k / 2 ≡ k = omega arith in
      omega (arith, w.each k, (rw (tail, place) at (closed.each (2 * k) (omega arith))) from to)

  empty : reached (arc_at arcs k).from ≡ false → reached (arc_at arcs k).to ≡ true → get_or flow k 0 ≡ 0
  empty from to =
      let head : (2 * k + 1) % 2 == 0 ≡ false = ne_eqb ((2 * k + 1) % 2) 0 (omega arith) in
      let place : (2 * k + 1) / 2 ≡ k = omega arith in
      (rw (head, place) at (closed.each (2 * k + 1) (omega arith))) to from

module _ {X : Type 0} (arcs : List Arc) (walkers : List X) (way : X → List ℕ) (lots : X → ℕ) (s t : ℕ) (each : AllByRecursion (Walking arcs way s t) walkers)
    (reached : ℕ → Bool) (from_s : reached s ≡ true) (not_t : reached t ≡ false) where
  -- the total brought is what goes out less what comes back
  pub total_leaves : sum_over arcs (leads_out reached) (load arcs walkers way lots s t each) ≡ sum_over arcs (leads_back reached) (load arcs walkers way lots s t each) + sum_by lots walkers
  total_leaves =
      by_walks arcs walkers way lots s t each (leads_out reached)
      ∙ sum_by-by (Walking arcs way s t) (λ x. way_sum arcs (leads_out reached) (way x) (lots x)) (λ x. way_sum arcs (leads_back reached) (way x) (lots x) + lots x) walkers
      (λ x w. walk_leaves arcs reached s t (way x) (lots x) from_s not_t w.walk) each
      ∙ sum_by-add (λ x. way_sum arcs (leads_back reached) (way x) (lots x)) lots walkers
      ∙ ap (λ n. n + sum_by lots walkers) (sym (by_walks arcs walkers way lots s t each (leads_back reached)))

  -- if the loads are a flow and the nodes are closed, the total is the capacity of the arcs that lead out
  pub total_is_cut : (flow : List ℕ) → ((k : ℕ) → k < length arcs → get_or flow k 0 ≡ load arcs walkers way lots s t each k) → IsWithin arcs flow → IsClosed arcs flow reached → sum_by lots walkers ≡ sum_over arcs (leads_out reached) (λ k. (arc_at arcs k).capacity)
  unfolding sum_over
  total_is_cut flow same within closed =
      let loads = load arcs walkers way lots s t each in
      let outs : sum_over arcs (leads_out reached) loads ≡ sum_over arcs (leads_out reached) (λ k. (arc_at arcs k).capacity) =
      sum_places_by (λ k. cond (leads_out reached (arc_at arcs k)) (loads k) 0) (λ k. cond (leads_out reached (arc_at arcs k)) (arc_at arcs k).capacity 0) (length arcs)
      (λ k k_in. at_test (leads_out reached (arc_at arcs k)) (loads k) (arc_at arcs k).capacity (λ out.
      let p = and_parts (reached (arc_at arcs k).from) (not (reached (arc_at arcs k).to)) out in
      sym (same k k_in) ∙ full arcs flow reached within closed k k_in p.0 (not-true (reached (arc_at arcs k).to) p.1))) in
      let backs : sum_over arcs (leads_back reached) loads ≡ 0 =
      sum_places_by (λ k. cond (leads_back reached (arc_at arcs k)) (loads k) 0) (λ k. 0) (length arcs)
      (λ k k_in. at_test (leads_back reached (arc_at arcs k)) (loads k) 0 (λ back.
      let p = and_parts (not (reached (arc_at arcs k).from)) (reached (arc_at arcs k).to) back in
      sym (same k k_in) ∙ empty arcs flow reached within closed k k_in (not-true (reached (arc_at arcs k).from) p.0) p.1)
      ∙ cond_same (leads_back reached (arc_at arcs k)) 0)
      ∙ sum_by-zeros (places (length arcs)) in
      omega (arith, total_leaves)
