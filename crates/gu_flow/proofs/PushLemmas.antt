-- The zero flow is a flow, and pushing lots over an end of an arc.
use Rattle.gu_flow.proofs.Words.{◌≡◌, ◌≢◌, ℕ, ◌+◌, ◌-◌, ◌*◌, ◌/◌, ◌<◌, ◌≤◌, ◌==◌, Bool, true, false, cond, List, length, sym, ap, arith, inl, inr, get_or, get_or-set_other, get_or-set_same, ◌∙◌, length-set, both_ways, cases_lt, sum_by-set, get_or_past, All, part-le, sum_by-zeros, Arc, no_arc, arc_at, is_tail, capacities, residual_in, residual_out, places, sum_over, inflow, outflow, value_of, IsWithin, IsFlow, Pushes}
use Rattle.std.proofs.Math.ListN.{set}
use Rattle.gu_flow.proofs.SumLemmas.{sum_by_place, sum_places_by, cond_same, sum_places_set, sum_places_le, at_set}

-- the zero flow is a flow
module _ (arcs : List Arc) (flow : List ℕ) (none : All (λ f. f ≡ 0) flow) where
  zero : (k : ℕ) → get_or flow k 0 ≡ 0
  zero k = elim (cases_lt k (length flow)) [ inl k_in ↦ none k 0 k_in | inr past ↦ get_or_past flow k 0 past ]

  over : (t : Arc → Bool) → sum_over arcs t (λ k. get_or flow k 0) ≡ 0
  unfolding sum_over
  over t = sum_places_by (λ k. cond (t (arc_at arcs k)) (get_or flow k 0) 0) (λ k. 0) (length arcs) (λ k k_in. ap (λ x. cond (t (arc_at arcs k)) x 0) (zero k) ∙ cond_same (t (arc_at arcs k)) 0) ∙ sum_by-zeros (places (length arcs))

  pub empty_flow : length flow ≡ length arcs → IsFlow arcs flow
  empty_flow all = record {
    within = record { all = all; each = λ k. omega (arith, zero k) };
    kept = λ n not_source not_sink. over (λ a. a.to == n) ∙ sym (over (λ a. a.from == n));
    taken = omega (arith, over (λ a. a.from == 1));
  }

-- the terms of another arc are unchanged
over_set : (arcs : List Arc) (t : Arc → Bool) (flow : List ℕ) (k x : ℕ) → k < length arcs → k < length flow
    → sum_over arcs t (λ j. get_or (set flow k x) j 0) + cond (t (arc_at arcs k)) (get_or flow k 0) 0 ≡ sum_over arcs t (λ j. get_or flow j 0) + cond (t (arc_at arcs k)) x 0
unfolding sum_over
over_set arcs t flow k x k_in in_flow =
    let now : cond (t (arc_at arcs k)) (get_or (set flow k x) k 0) 0 ≡ cond (t (arc_at arcs k)) x 0 = ap (λ y. cond (t (arc_at arcs k)) y 0) (get_or-set_same flow k x 0 in_flow) in
    omega (
      arith,
      now,
      sum_places_set (λ j. cond (t (arc_at arcs j)) (get_or flow j 0) 0) (λ j. cond (t (arc_at arcs j)) (get_or (set flow k x) j 0) 0) (length arcs) k k_in
          (λ j other. ap (λ y. cond (t (arc_at arcs j)) y 0) (get_or-set_other flow k j x 0 other)),
    )

-- more lots at one index come from one node and go to another
moved : (b c : Bool) (f lots x i i' o o' : ℕ) → x ≡ f + lots → i' + cond c f 0 ≡ i + cond c x 0 → o' + cond b f 0 ≡ o + cond b x 0 → i' + o + cond b lots 0 ≡ i + o' + cond c lots 0
moved true true f lots x i i' o o' is p q = omega arith
moved true false f lots x i i' o o' is p q = omega arith
moved false true f lots x i i' o o' is p q = omega arith
moved false false f lots x i i' o o' is p q = omega arith

module _ (arcs : List Arc) (flow : List ℕ) (end lots x : ℕ) (w : IsWithin arcs flow) (end_in : end < 2 * length arcs) where
  abbrev place : ℕ
  place = end / 2

  place_in : place < length arcs
  place_in = omega arith

  small : x ≤ (arc_at arcs place).capacity → IsWithin arcs (set flow place x)
  small less = record {
    all = omega (arith, length-set flow place x, w.all);
    each = at_set (λ k y. y ≤ (arc_at arcs k).capacity) flow place x 0 (omega (arith, place_in, w.all)) less (λ k other. w.each k);
  }

  elsewhere : (d : ℕ) → d / 2 ≢ place → residual_in arcs (set flow place x) d ≡ residual_in arcs flow d
  elsewhere d other = ap (λ y. cond (is_tail d) y ((arc_at arcs (d / 2)).capacity - y)) (get_or-set_other flow place (d / 2) x 0 other)

  ins : (n : ℕ) → inflow arcs (set flow place x) n + cond ((arc_at arcs place).to == n) (get_or flow place 0) 0 ≡ inflow arcs flow n + cond ((arc_at arcs place).to == n) x 0
  ins n = over_set arcs (λ a. a.to == n) flow place x place_in (omega (arith, place_in, w.all))

  outs : (n : ℕ) → outflow arcs (set flow place x) n + cond ((arc_at arcs place).from == n) (get_or flow place 0) 0 ≡ outflow arcs flow n + cond ((arc_at arcs place).from == n) x 0
  outs n = over_set arcs (λ a. a.from == n) flow place x place_in (omega (arith, place_in, w.all))

  -- along the arc, and against it
  pub pushes_along : is_tail end ≡ true → lots ≤ residual_out arcs flow end → x ≡ get_or flow place 0 + lots → Pushes arcs flow (set flow place x) end lots
  pushes_along tail room is =
      let some = rw tail at room in
      record {
        within = small (omega (arith, some, w.each place));
        nodes = λ n. rw tail (moved ((arc_at arcs place).from == n) ((arc_at arcs place).to == n) (get_or flow place 0) lots x _ _ _ _ is (ins n) (outs n));
        others = elsewhere;
        less = λ head. absurd (both_ways (is_tail end) head tail);
      }

  pub pushes_against : is_tail end ≡ false → lots ≤ residual_out arcs flow end → x ≡ get_or flow place 0 - lots → Pushes arcs flow (set flow place x) end lots
  pushes_against head room is =
      let some = rw head at room in
      record {
        within = small (omega (arith, some, w.each place));
        nodes = λ n. rw head (sym (moved ((arc_at arcs place).from == n) ((arc_at arcs place).to == n) x lots (get_or flow place 0) _ _ _ _ (omega arith) (sym (ins n)) (sym (outs n))));
        others = elsewhere;
        less = λ _. omega (arith, sum_by-set (λ (y : ℕ). y) flow place x 0 (omega (arith, place_in, w.all)), some);
      }

-- no more flows into a node than the total capacity
pub inflow-le : (arcs : List Arc) (flow : List ℕ) (n : ℕ) → IsWithin arcs flow → inflow arcs flow n ≤ capacities arcs
unfolding sum_over
inflow-le arcs flow n w =
    omega (arith, sum_places_le (λ k. cond ((arc_at arcs k).to == n) (get_or flow k 0) 0) (λ k. (arc_at arcs k).capacity) (length arcs) (λ k. omega (arith, part-le ((arc_at arcs k).to == n) (get_or flow k 0), w.each k)), sum_by_place (λ (a : Arc). a.capacity) arcs no_arc)

-- so what remains to be pushed decreases
pub left_less : (arcs : List Arc) (old new : List ℕ) → IsWithin arcs new → value_of arcs old < value_of arcs new → capacities arcs - value_of arcs new < capacities arcs - value_of arcs old
left_less arcs old new w more = omega (arith, inflow-le arcs new 1 w)
