-- Lots are pushed over an end of an arc, and given back.
use Rattle.gu_flow.proofs.Words.{◌≡◌, ◌≢◌, ℕ, ◌+◌, ◌-◌, ◌^◌, ◌<◌, ◌≤◌, ◌==◌, cond, List, length, refl, arith, ◌∙◌, subst, inl, inr, get_or, cases_eq, eqb-true, eq-eqb, ne_eqb, cond-true, sum_by-zeros, Arc, arc_at, near, far, capacities, places, sum_over, inflow, IsFlow, Pushes, IsPreflow, AreSettled}
use Rattle.gu_flow.proofs.PushLemmas.{inflow-le}
use Rattle.gu_flow.proofs.SumLemmas.{sum_places_by, at_test, cond_same}

-- a node gives at most its excess
covered : (excess : List ℕ) (from n lots : ℕ) → lots ≤ get_or excess from 0 → cond (from == n) lots 0 ≤ get_or excess n 0
covered excess from n lots h = elim (cases_eq from n) [
  | inl same ↦ rw (eq-eqb from n same) (subst (λ k. lots ≤ get_or excess k 0) same h)
  | inr other ↦ rw (ne_eqb from n other) (omega arith)
]

module _ (arcs : List Arc) (flow new excess : List ℕ) (end lots : ℕ) (old : IsPreflow arcs flow excess) (has : lots ≤ get_or excess (near arcs end) 0) (c : Pushes arcs flow new end lots) where
  none_from_sink : cond (near arcs end == 1) lots 0 ≡ 0
  none_from_sink = omega (arith, covered excess (near arcs end) 1 lots has, old.sink)

  -- a node's excess stays below 2^64
  pub pushed_fits : capacities arcs < 2 ^ 64 → far arcs end ≢ 0 → far arcs end ≢ 1 → get_or excess (far arcs end) 0 - cond (near arcs end == far arcs end) lots 0 + lots < 2 ^ 64
  pushed_fits fits not_source not_sink =
      let to = far arcs end in
      let own : cond (to == to) lots 0 ≡ lots = cond-true (to == to) lots 0 (eq-eqb to to refl) in
      omega (arith, c.nodes to, own, old.kept to not_source not_sink, covered excess (near arcs end) to lots has, inflow-le arcs new to c.within)

  -- a preflow stays one
  pub pushed_preflow : (less more : List ℕ) → ((n : ℕ) → n ≢ 0 → get_or less n 0 ≡ get_or excess n 0 - cond (near arcs end == n) lots 0)
      → ((n : ℕ) → 1 < n → get_or more n 0 ≡ get_or less n 0 + cond (far arcs end == n) lots 0) → get_or more 1 0 ≡ get_or less 1 0 → IsPreflow arcs new more
  pushed_preflow less more debit credit at_sink = record {
    within = c.within;
    kept = λ n not_source not_sink. omega (arith, c.nodes n, old.kept n not_source not_sink, covered excess (near arcs end) n lots has, debit n not_source, credit n (let other = not_sink in omega arith));
    taken = omega (arith, c.nodes 1, none_from_sink, old.taken);
    sink = omega (arith, at_sink, debit 1 (omega arith), old.sink);
  }

-- when no arc brings lots to a node with an excess, there is no excess
pub settled_flow : (arcs : List Arc) (flow excess : List ℕ) → IsPreflow arcs flow excess → AreSettled arcs flow excess (length arcs) → IsFlow arcs flow
unfolding sum_over
settled_flow arcs flow excess preflow settled = record {
  within = preflow.within;
  kept = λ n not_source not_sink.
      let nothing : get_or excess n 0 ≡ 0 = elim (cases_eq (get_or excess n 0) 0) [
        | inl none ↦ none
        | inr some ↦
            let empty : (k : ℕ) → k < length arcs → (arc_at arcs k).to ≡ n → get_or flow k 0 ≡ 0 = λ k k_in to. elim (cases_eq (get_or flow k 0) 0) [
              | inl empty ↦ empty
              | inr flows ↦ absurd (some (subst (λ m. get_or excess m 0 ≡ 0) to (settled k k_in (omega arith) (omega arith))))
            ] in
            let none : inflow arcs flow n ≡ 0 =
            sum_places_by (λ k. cond ((arc_at arcs k).to == n) (get_or flow k 0) 0) (λ k. 0) (length arcs) (λ k k_in. at_test ((arc_at arcs k).to == n) (get_or flow k 0) 0 (λ to. empty k k_in (eqb-true (arc_at arcs k).to n to)) ∙ cond_same ((arc_at arcs k).to == n) 0)
            ∙ sum_by-zeros (places (length arcs)) in
            omega (arith, none, preflow.kept n not_source not_sink)
      ] in
      omega (arith, nothing, preflow.kept n not_source not_sink);
  taken = preflow.taken;
}
