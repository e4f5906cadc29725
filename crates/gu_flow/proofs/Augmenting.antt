-- Lots are pushed back along a path, arc by arc.
use Rattle.gu_flow.proofs.Words.{◌≡◌, ◌≢◌, ℕ, ◌+◌, ◌-◌, ◌/◌, ◌<◌, ◌≤◌, ◌==◌, cond, List, length, sym, ◌∙◌, ap, arith, inl, inr, get_or, min, cases_eq, cases_lt, ne_eqb, cond-false, Arc, near, far, other_end, residual_in, residual_out, inflow, outflow, value_of, IsWithin, Pushes, stand, IsWhole, IsNarrow}
use Rattle.gu_flow.proofs.EndLemmas.{other_end-arc, near-other_end, far-other_end, residual_out-other_end}

-- the node that the path has reached lacks the lots, all others are balanced, and the remaining steps have room
pub record Augmenting (arcs : List Arc) (start flow way : List ℕ) (lots i : ℕ) : Type 0 where
  pub within : IsWithin arcs flow
  pub kept : (n : ℕ) → n ≢ 0 → inflow arcs flow n + cond (stand arcs way i == n) lots 0 ≡ outflow arcs flow n + cond (1 == n) (value_of arcs start + lots) 0
  pub ahead : (j : ℕ) → i ≤ j → j < length way → lots ≤ residual_in arcs flow (get_or way j 0)

-- after one more step a path is at the far end
pub stand-more : (arcs : List Arc) (way : List ℕ) (i : ℕ) → stand arcs way (i + 1) ≡ far arcs (get_or way i 0)
stand-more arcs way i = cond-false (i + 1 == 0) 1 (far arcs (get_or way (i + 1 - 1) 0)) (ne_eqb (i + 1) 0 (omega arith)) ∙ ap (λ k. far arcs (get_or way k 0)) (omega arith)

-- one more step, with the least room so far
pub narrow_more : (arcs : List Arc) (flow way : List ℕ) (i least here next : ℕ) → (0 < i → IsNarrow arcs flow way i least) → (i ≡ 0 → here ≤ least) → here ≡ residual_in arcs flow (get_or way i 0) → next ≡ min least here
    → IsNarrow arcs flow way (i + 1) next
narrow_more arcs flow way i least here next before first here_is next_is =
    elim (cases_lt least here) [
      | inl lower ↦ elim (cases_eq i 0) [
        | inl none ↦ absurd (omega (arith, first none))
        | inr some ↦ let old = before (omega arith) in record { step = old.step; within = omega (arith, old.within); room = omega (arith, old.room) }
      ]
      | inr narrower ↦ record { step = i; within = omega arith; room = omega arith }
    ]

module _ (arcs : List Arc) (start flow way : List ℕ) (lots i : ℕ) (is_whole : IsWhole arcs way) (b : Augmenting arcs start flow way lots i) where
  -- the next step has room, and once the lots are pushed over it the path continues at its far end
  pub step_room : i < length way → lots ≤ residual_out arcs flow (other_end (get_or way i 0))
  step_room i_in = omega (arith, residual_out-other_end arcs flow (get_or way i 0), b.ahead i (omega arith) i_in)

  pub augment_on : (new : List ℕ) → i < length way → Pushes arcs flow new (other_end (get_or way i 0)) lots → Augmenting arcs start new way lots (i + 1)
  augment_on new i_in c =
      let end = get_or way i 0 in
      let near_is : near arcs (other_end end) ≡ stand arcs way (i + 1) = near-other_end arcs end ∙ sym (stand-more arcs way i) in
      let far_is : far arcs (other_end end) ≡ stand arcs way i = far-other_end arcs end ∙ is_whole.is_way.joined i i_in in
      record {
        within = c.within;
        kept = λ n other. omega (arith, c.nodes n, b.kept n other, ap (λ m. cond (m == n) lots 0) near_is, ap (λ m. cond (m == n) lots 0) far_is);
        ahead = λ j from j_in.
            let apart : get_or way j 0 / 2 ≢ other_end end / 2 = λ same. absurd (omega (arith, is_whole.once j i j_in i_in (same ∙ other_end-arc end))) in
            omega (arith, c.others (get_or way j 0) apart, b.ahead j (omega arith) j_in);
      }
