-- Ways through a network, and the total load of many of them.
use Rattle.gu_flow.proofs.Words.{◌≡◌, ◌≢◌, ℕ, ◌+◌, ◌<◌, ◌==◌, Bool, cond, List, [], ◌∷◌, length, refl, sym, ◌∙◌, ap, subst, arith, AllByRecursion, list_any, sum_by-cons, ne_eqb, cond-false, Arc, arc_at, places, sum_over, sum_by-agree, sum_by-swap}
use Rattle.std.specs.List.{sum_by}
use Rattle.gu_flow.proofs.SumLemmas.{sum_by-by, cond-sum, cond-swap, sum_one_place}

-- the arcs at these indexes lead from node to node
abbrev pub Walks : List Arc → ℕ → List ℕ → ℕ → Type 0
Walks arcs a [] b = a ≡ b
Walks arcs a (k ∷ way) b = (k < length arcs) × ((arc_at arcs k).from ≡ a) × Walks arcs (arc_at arcs k).to way b

-- an index is on the way
abbrev pub has_place : List ℕ → ℕ → Bool
has_place way k = list_any (λ j. j == k) way

-- each index occurs once
pub record CountsOnce (way : List ℕ) : Type 0 where
  pub once : (k x : ℕ) → cond (has_place way k) x 0 ≡ sum_by (λ j. cond (j == k) x 0) way

-- x for each arc of the way that passes a test
unfoldable pub way_sum : List Arc → (Arc → Bool) → List ℕ → ℕ → ℕ
way_sum arcs t way x = sum_by (λ k. cond (t (arc_at arcs k)) x 0) way

way_sum-cons : (arcs : List Arc) (t : Arc → Bool) (k : ℕ) (way : List ℕ) (x : ℕ) → way_sum arcs t (k ∷ way) x ≡ cond (t (arc_at arcs k)) x 0 + way_sum arcs t way x
unfolding way_sum
way_sum-cons arcs t k way x = sum_by-cons (λ k. cond (t (arc_at arcs k)) x 0) k way

way_sum-nil : (arcs : List Arc) (t : Arc → Bool) (x : ℕ) → way_sum arcs t [] x ≡ 0
unfolding way_sum
way_sum-nil arcs t x = refl

-- along a walk, the sums for a test of heads and for one of tails differ by the ends
pub along_walk : (arcs : List Arc) (p q : Arc → Bool) (r : ℕ → Bool) (x : ℕ) → ((a : Arc) → cond (p a) x 0 + cond (r a.from) x 0 ≡ cond (q a) x 0 + cond (r a.to) x 0)
    → (way : List ℕ) (a b : ℕ) → Walks arcs a way b → way_sum arcs p way x + cond (r a) x 0 ≡ way_sum arcs q way x + cond (r b) x 0
along_walk arcs p q r x step [] a b walk =
    let end : cond (r a) x 0 ≡ cond (r b) x 0 = ap (λ n. cond (r n) x 0) walk in
    omega (arith, way_sum-nil arcs p x, way_sum-nil arcs q x)
along_walk arcs p q r x step (k ∷ way) a b (k_in, from, walk) =
    let rest : way_sum arcs p way x + cond (r (arc_at arcs k).to) x 0 ≡ way_sum arcs q way x + cond (r b) x 0 = along_walk arcs p q r x step way (arc_at arcs k).to b walk in
    let here : cond (p (arc_at arcs k)) x 0 + cond (r a) x 0 ≡ cond (q (arc_at arcs k)) x 0 + cond (r (arc_at arcs k).to) x 0 =
    subst (λ n. cond (p (arc_at arcs k)) x 0 + cond (r n) x 0 ≡ cond (q (arc_at arcs k)) x 0 + cond (r (arc_at arcs k).to) x 0) from (step (arc_at arcs k)) in
    omega (arith, way_sum-cons arcs p k way x, way_sum-cons arcs q k way x)

turn : (b c : Bool) (x : ℕ) → cond b x 0 + cond c x 0 ≡ cond c x 0 + cond b x 0
turn b c x = omega arith

-- a node is left as often as it is entered
pub way_sum-balance : (arcs : List Arc) (n s t : ℕ) (way : List ℕ) (x : ℕ) → n ≢ s → n ≢ t → Walks arcs s way t → way_sum arcs (λ a. a.to == n) way x ≡ way_sum arcs (λ a. a.from == n) way x
way_sum-balance arcs n s t way x not_s not_t walk =
    let whole : way_sum arcs (λ a. a.to == n) way x + cond (s == n) x 0 ≡ way_sum arcs (λ a. a.from == n) way x + cond (t == n) x 0 =
    along_walk arcs (λ a. a.to == n) (λ a. a.from == n) (λ m. m == n) x (λ a. turn (a.to == n) (a.from == n) x) way s t walk in
    let at_s : cond (s == n) x 0 ≡ 0 = cond-false (s == n) x 0 (ne_eqb s n (λ e. not_s (sym e))) in
    let at_t : cond (t == n) x 0 ≡ 0 = cond-false (t == n) x 0 (ne_eqb t n (λ e. not_t (sym e))) in
    omega arith

-- what a walk adds at the arcs that pass the test
at_arcs : (arcs : List Arc) (t : Arc → Bool) (way : List ℕ) (x : ℕ) → AllByRecursion (λ k. k < length arcs) way → CountsOnce way → sum_over arcs t (λ k. cond (has_place way k) x 0) ≡ way_sum arcs t way x
unfolding way_sum sum_over
at_arcs arcs t way x inside once =
    sum_by-agree (λ k. cond (t (arc_at arcs k)) (cond (has_place way k) x 0) 0) (λ k. sum_by (λ j. cond (j == k) (cond (t (arc_at arcs k)) x 0) 0) way) (places (length arcs))
    (λ k. cond-swap (t (arc_at arcs k)) (has_place way k) x ∙ once.once k (cond (t (arc_at arcs k)) x 0))
    ∙ sum_by-swap (λ k j. cond (j == k) (cond (t (arc_at arcs k)) x 0) 0) (places (length arcs)) way
    ∙ sum_by-by (λ k. k < length arcs) (λ j. sum_by (λ k. cond (j == k) (cond (t (arc_at arcs k)) x 0) 0) (places (length arcs))) (λ j. cond (t (arc_at arcs j)) x 0) way
    (λ j j_in. sum_one_place (λ k. cond (t (arc_at arcs k)) x 0) (length arcs) j j_in) inside

-- many walks from one node to another, each with its lots
pub record Walking {X : Type 0} (arcs : List Arc) (way : X → List ℕ) (s t : ℕ) (x : X) : Type 0 where
  pub walk : Walks arcs s (way x) t
  pub once : CountsOnce (way x)

walk_inside : (arcs : List Arc) (a b : ℕ) (way : List ℕ) → Walks arcs a way b → AllByRecursion (λ k. k < length arcs) way
walk_inside arcs a b [] walk = tt
walk_inside arcs a b (k ∷ way) (k_in, from, walk) = (k_in, walk_inside arcs (arc_at arcs k).to b way walk)

module _ {X : Type 0} (arcs : List Arc) (walkers : List X) (way : X → List ℕ) (lots : X → ℕ) (s t : ℕ) (each : AllByRecursion (Walking arcs way s t) walkers) where
  -- the lots brought through the arc at an index
  unfoldable pub load : ℕ → ℕ
  load k = sum_by (λ x. cond (has_place (way x) k) (lots x) 0) walkers

  -- the loads of the arcs that pass the test, walk by walk
  pub by_walks : (p : Arc → Bool) → sum_over arcs p load ≡ sum_by (λ x. way_sum arcs p (way x) (lots x)) walkers
  unfolding load sum_over
  by_walks p =
      sum_by-agree (λ k. cond (p (arc_at arcs k)) (load k) 0) (λ k. sum_by (λ x. cond (p (arc_at arcs k)) (cond (has_place (way x) k) (lots x) 0) 0) walkers) (places (length arcs))
      (λ k. cond-sum (p (arc_at arcs k)) (λ x. cond (has_place (way x) k) (lots x) 0) walkers)
      ∙ sum_by-swap (λ k x. cond (p (arc_at arcs k)) (cond (has_place (way x) k) (lots x) 0) 0) (places (length arcs)) walkers
      ∙ sum_by-by (Walking arcs way s t) (λ x. sum_by (λ k. cond (p (arc_at arcs k)) (cond (has_place (way x) k) (lots x) 0) 0) (places (length arcs))) (λ x. way_sum arcs p (way x) (lots x)) walkers
      (λ x w. at_arcs arcs p (way x) (lots x) (walk_inside arcs s t (way x) w.walk) w.once) each

  -- loads are conserved at each node
  pub loads_kept : (n : ℕ) → n ≢ s → n ≢ t → sum_over arcs (λ a. a.to == n) load ≡ sum_over arcs (λ a. a.from == n) load
  loads_kept n not_s not_t =
      by_walks (λ a. a.to == n)
      ∙ sum_by-by (Walking arcs way s t) (λ x. way_sum arcs (λ a. a.to == n) (way x) (lots x)) (λ x. way_sum arcs (λ a. a.from == n) (way x) (lots x)) walkers
      (λ x w. way_sum-balance arcs n s t (way x) (lots x) not_s not_t w.walk) each
      ∙ sym (by_walks (λ a. a.from == n))
