-- Each offer in turn is given as much as possible.
use Rattle.gu_flow.proofs.Words.{◌≡◌, ◌≢◌, ℕ, ◌+◌, ◌<◌, ◌≤◌, ◌==◌, min, cond, List, length, take, set, get_or, refl, sym, ◌∙◌, ap, subst, arith, inl, inr, length-set, cases_eq, eq-eqb, ne_eqb, cond-true, cond-false, All-from_get_or, sum_by-take-le, sum_by-le, part-le, GroupView, IsView, ViewOffer, Allotment, Arc, arc_at, IsAlike, value_of, no_offer, offer_at, got_before, IsOldestBefore, IsAllotment, agreement_place, agreement_lots}
use Rattle.gu_flow.proofs.OldestPass.{more, stays, one_more}
use Rattle.gu_flow.proofs.SumLemmas.{at_set}

-- the floors are what the offers so far got, and the goals are what they have
pub record Giving (view : GroupView) (arcs : List Arc) (nodes : ℕ) (start : List ℕ) (a : Allotment) (goals : List ℕ) (i : ℕ) : Type 0 where
  pub is : IsAllotment arcs nodes a
  pub value : value_of arcs a.flow.items ≡ value_of arcs start
  pub goals_size : length goals ≡ length arcs
  pub floors_are : (p : ℕ) → get_or a.floors.items p 0 ≡ got_before view a.flow.items i p
  pub goals_are : (p : ℕ) → get_or goals p 0 ≡ agreement_lots view.rooms (take i view.offers) p
  pub oldest : IsOldestBefore view arcs a.flow.items i

pub give_begins : (view : GroupView) (arcs : List Arc) (nodes : ℕ) (a : Allotment) (goals : List ℕ) → IsAllotment arcs nodes a → ((k : ℕ) → get_or a.floors.items k 0 ≡ 0) → ((k : ℕ) → get_or goals k 0 ≡ 0) → length goals ≡ length arcs
    → Giving view arcs nodes a.flow.items a goals 0
give_begins view arcs nodes a goals is no_floors no_goals size = record {
  is = is;
  value = refl;
  goals_size = size;
  floors_are = λ p. omega (arith, no_floors p);
  goals_are = λ p. no_goals p;
  oldest = record { each = λ j j_in. absurd (omega arith) };
}

-- the lots of some offers don't overflow
pub lots_small : (view : GroupView) → IsView view → (n p : ℕ) → agreement_lots view.rooms (take n view.offers) p ≤ 4096000000
lots_small view sound n p =
    let f : ViewOffer → ℕ = λ o. cond (agreement_place view.rooms o == p) o.lots 0 in
    let all = sum_by-le f 1000000 view.offers (All-from_get_or (λ o. f o ≤ 1000000) view.offers no_offer (λ i inside. omega (arith, part-le (agreement_place view.rooms (offer_at view.offers i) == p) (offer_at view.offers i).lots, (sound.lots i no_offer inside).most))) in
    omega (arith, all, sum_by-take-le f view.offers n, sound.few)

module _ (view : GroupView) (arcs : List Arc) (nodes : ℕ) (start : List ℕ) (a : Allotment) (goals : List ℕ) (i place : ℕ) (i_in : i < length view.offers) (at : place ≡ agreement_place view.rooms (offer_at view.offers i)) (place_in : place < length arcs)
    (g : Giving view arcs nodes start a goals i) where
  abbrev lots : ℕ
  lots = (offer_at view.offers i).lots

  more_at : (p : ℕ) → agreement_lots view.rooms (take (i + 1) view.offers) p ≡ agreement_lots view.rooms (take i view.offers) p + cond (agreement_place view.rooms (offer_at view.offers i) == p) lots 0
  more_at p = more view arcs a.flow.items a.flow.items i i_in g.oldest g.is.is_flow refl (λ p. omega arith) i p i_in

  more_here : agreement_lots view.rooms (take (i + 1) view.offers) place ≡ agreement_lots view.rooms (take i view.offers) place + lots
  more_here = more_at place ∙ ap (λ n. agreement_lots view.rooms (take i view.offers) place + n) (cond-true (agreement_place view.rooms (offer_at view.offers i) == place) lots 0 (eq-eqb (agreement_place view.rooms (offer_at view.offers i)) place (sym at)))

  more_there : (p : ℕ) → p ≢ place → agreement_lots view.rooms (take (i + 1) view.offers) p ≡ agreement_lots view.rooms (take i view.offers) p
  more_there p other =
      let none : cond (agreement_place view.rooms (offer_at view.offers i) == p) lots 0 ≡ 0 = cond-false (agreement_place view.rooms (offer_at view.offers i) == p) lots 0 (ne_eqb (agreement_place view.rooms (offer_at view.offers i)) p (λ e. other (sym (at ∙ e)))) in
      omega (arith, none, more_at p)

  pub goal_is : get_or goals place 0 + (offer_at view.offers i).lots ≡ agreement_lots view.rooms (take (i + 1) view.offers) place
  goal_is = omega (arith, g.goals_are place, more_here)

  module _ (goal : ℕ) (goal_now : goal ≡ min (get_or goals place 0 + (offer_at view.offers i).lots) (arc_at arcs place).capacity) where
    pub floor_within : get_or a.floors.items place 0 ≤ goal
    floor_within = omega (arith, g.floors_are place, g.goals_are place, g.is.is_flow.within.each place, goal_now)

    pub gives_one : (now : Allotment) → IsAllotment arcs nodes now → value_of arcs now.flow.items ≡ value_of arcs a.flow.items
        → get_or now.floors.items place 0 ≡ min (get_or now.flow.items place 0) goal → ((k : ℕ) → k ≢ place → get_or now.floors.items k 0 ≡ get_or a.floors.items k 0) → get_or a.floors.items place 0 ≤ get_or now.floors.items place 0
        → ((others : List ℕ) → IsAlike arcs a.floors.items now.flow.items others → min (get_or others place 0) goal ≤ get_or now.floors.items place 0)
        → Giving view arcs nodes start now (set goals place (get_or goals place 0 + (offer_at view.offers i).lots)) (i + 1)
    gives_one now is value here same rises most =
        let rise : (p : ℕ) → get_or a.floors.items p 0 ≤ get_or now.floors.items p 0 = λ p. elim (cases_eq p place) [ inl it ↦ rw it rises | inr other ↦ omega (arith, same p other) ] in
        let kept : (p : ℕ) → got_before view a.flow.items i p ≤ get_or now.flow.items p 0 = λ p. omega (arith, g.floors_are p, rise p, is.keeps.each p) in
        let stay : (p : ℕ) → got_before view now.flow.items i p ≡ got_before view a.flow.items i p = λ p. stays view arcs a.flow.items now.flow.items i i_in g.oldest is.is_flow value kept i (omega arith) p in
        let goal_here : goal ≡ min (agreement_lots view.rooms (take (i + 1) view.offers) place) (arc_at arcs place).capacity = goal_now ∙ ap (λ n. min n (arc_at arcs place).capacity) goal_is in
        record {
          is = is;
          value = value ∙ g.value;
          goals_size = length-set goals place (get_or goals place 0 + lots) ∙ g.goals_size;
          floors_are = λ p. elim (cases_eq p place) [
            | inl it ↦ rw it (omega (arith, here, goal_here, is.is_flow.within.each place))
            | inr other ↦ omega (arith, same p other, g.floors_are p, stay p, more_there p other)
          ];
          goals_are = at_set (λ p n. n ≡ agreement_lots view.rooms (take (i + 1) view.offers) p) goals place (get_or goals place 0 + lots) 0 (omega (arith, place_in, g.goals_size)) goal_is (λ p other. omega (arith, g.goals_are p, more_there p other));
          oldest = one_more view arcs a.flow.items now.flow.items i i_in g.oldest is.is_flow value kept (λ others their value' got.
              let alike : IsAlike arcs a.floors.items now.flow.items others = record { is_flow = their; value = value'; keeps = record { each = λ p. omega (arith, g.floors_are p, got p) } } in
              subst (λ q. got_before view others (i + 1) q ≤ got_before view now.flow.items (i + 1) q) at (omega (arith, most others alike, here, goal_here, their.within.each place, is.is_flow.within.each place)));
        }
