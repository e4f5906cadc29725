-- A search from the source over a flow without floors: what it has reached lies within each source side from which nothing more can be pushed.
use Rattle.gu_flow.proofs.Words.{◌≡◌, ℕ, zero, suc, ◌-◌, ◌/◌, ◌<◌, ◌≤◌, Bool, true, false, cond, nat_lt, List, length, get_or, refl, sym, ◌∙◌, ap, subst, arith, inl, inr, cases_Bool, cases_eq, eq-eqb, ltb-true, Allotment, Arc, Mark, Search, arc_at, is_tail, near, far, residual_out, capacities, value_of, JoinsNodes, KeepsFloors, IsClosed, IsFlow, room_inside, HasRooms, IsAllotment, IsFree, mark_at, level_at, is_reached, IsSourceSearch, IsTree}
use Rattle.std.proofs.Math.Path.{fun_ext}
use Rattle.gu_flow.specs.LeastCuts.{IsLeastSide}
use Rattle.gu_flow.proofs.Borders.{all_one, closed_stays}
use Rattle.gu_flow.proofs.Looking.{search_done}
use Rattle.gu_flow.proofs.PushLemmas.{left_less}

no_floor : (b : Bool) (x y : ℕ) → cond b x (y - 0) ≡ cond b x y
no_floor true x y = refl
no_floor false x y = omega arith

module _ (arcs : List Arc) (nodes : ℕ) (a : Allotment) (free : IsFree arcs nodes a) where
  pub free_allotment : IsAllotment arcs nodes a
  free_allotment = record {
    is_flow = free.is_flow;
    keeps = record { each = λ k. omega (arith, free.no_floors k) };
    rooms = free.rooms;
    floors = free.floors;
    regions = free.regions;
    fixed = all_one arcs a.floors.items a.flow.items a.regions.items free.one_region;
  }

  -- each end has all the room that the flow leaves
  free_room : room_inside arcs a false ≡ residual_out arcs a.flow.items
  free_room = fun_ext (λ e.
      let one = eq-eqb (get_or a.regions.items (near arcs e) 0) (get_or a.regions.items (far arcs e) 0) (free.one_region (near arcs e) ∙ sym (free.one_region (far arcs e))) in
      rw (one, free.no_floors (e / 2)) (no_floor (is_tail e) ((arc_at arcs (e / 2)).capacity - get_or a.flow.items (e / 2) 0) (get_or a.flow.items (e / 2) 0)))

  pub over_flow : (s : Search) → IsSourceSearch arcs nodes (room_inside arcs a s.back) s → IsSourceSearch arcs nodes (residual_out arcs a.flow.items) s
  over_flow s is = subst (λ room. IsSourceSearch arcs nodes room s) (ap (room_inside arcs a) is.ahead ∙ free_room) is

-- a flow that can be rerouted at will has grown
pub record Grown (arcs : List Arc) (old now : Allotment) : Type 0 where
  pub is_flow : IsFlow arcs now.flow.items
  pub more : value_of arcs old.flow.items < value_of arcs now.flow.items
  pub same : (now.floors ≡ old.floors) × (now.regions ≡ old.regions)

pub grows : (arcs : List Arc) (old now : Allotment) (flow : List ℕ) → now.flow.items ≡ flow → IsFlow arcs flow → value_of arcs old.flow.items < value_of arcs flow → now.floors ≡ old.floors → now.regions ≡ old.regions → Grown arcs old now
grows arcs old now flow is is_flow more floors regions = record {
  is_flow = subst (IsFlow arcs) (sym is) is_flow;
  more = subst (λ f. value_of arcs old.flow.items < value_of arcs f) (sym is) more;
  same = (floors, regions);
}

pub grown_keeps : (arcs : List Arc) (nodes : ℕ) (old now : Allotment) → IsFree arcs nodes old → Grown arcs old now → KeepsFloors now.floors.items now.flow.items
grown_keeps arcs nodes old now free grown = record { each = λ k. omega (arith, ap (λ f. get_or f.items k 0) grown.same.0, free.no_floors k) }

-- once it is measured, it can be rerouted at will again
pub measured_free : (arcs : List Arc) (nodes : ℕ) (old now new : Allotment) → IsFree arcs nodes old → Grown arcs old now → new.flow ≡ now.flow → new.floors ≡ now.floors → new.regions ≡ now.regions → HasRooms arcs new
    → IsFree arcs nodes new
measured_free arcs nodes old now new free grown flow floors regions rooms = record {
  is_flow = subst (λ f. IsFlow arcs f.items) (sym flow) grown.is_flow;
  rooms = rooms;
  floors = ap (λ f. length f.items) (floors ∙ grown.same.0) ∙ free.floors;
  regions = ap (λ r. length r.items) (regions ∙ grown.same.1) ∙ free.regions;
  no_floors = λ k. ap (λ f. get_or f.items k 0) (floors ∙ grown.same.0) ∙ free.no_floors k;
  one_region = λ n. ap (λ r. get_or r.items n 0) (regions ∙ grown.same.1) ∙ free.one_region n;
}

-- and less is left of the capacities
pub grown_less : (arcs : List Arc) (old now new : Allotment) → Grown arcs old now → new.flow ≡ now.flow → capacities arcs - value_of arcs new.flow.items < capacities arcs - value_of arcs old.flow.items
grown_less arcs old now new grown flow =
    subst (λ f. capacities arcs - value_of arcs f.items < capacities arcs - value_of arcs old.flow.items) (sym flow) (left_less arcs old.flow.items now.flow.items grown.is_flow.within grown.more)

module _ (arcs : List Arc) (flow : List ℕ) (marks : List Mark) (tree : IsTree arcs (residual_out arcs flow) 0 marks) (others : ℕ → Bool) (source : others 0 ≡ true) (closed : IsClosed arcs flow others) where
  up_to : (level n : ℕ) → level_at marks n ≤ level → 0 < level_at marks n → others n ≡ true
  up_to zero n within some = absurd (omega arith)
  up_to (suc level) n within some = elim (cases_eq n 0) [
    | inl here ↦ ap others here ∙ source
    | inr other ↦
        let e = tree.entered n other some in
        let via = (mark_at marks n).via in
        let before = up_to level (near arcs via) (omega (arith, e.falls, within)) (omega (arith, e.falls, tree.above n other some)) in
        elim (cases_Bool (others n)) [
          | inl is ↦ is
          | inr off ↦ absurd (omega (arith, closed.each via e.end_in before (ap others e.here ∙ off), e.some, e.fits))
        ]
  ]

-- if it has no ends left and hasn't reached the sink, they are the least such side in each flow of this value
pub least_side : (arcs : List Arc) (nodes : ℕ) → JoinsNodes arcs nodes → 0 < nodes → (flow : List ℕ) (s : Search) → IsFlow arcs flow → IsSourceSearch arcs nodes (residual_out arcs flow) s → s.count ≤ s.done
    → is_reached s.marks.items 1 ≡ false → IsLeastSide arcs flow (is_reached s.marks.items)
least_side arcs nodes joins some flow s is from_source out sink =
    let marks = s.marks.items in
    let tree : IsTree arcs (residual_out arcs flow) 0 marks = subst (λ n. IsTree arcs (residual_out arcs flow) n marks) from_source.source from_source.search.tree in
    record {
      source = ap (nat_lt 0) tree.begun;
      sink = sink;
      closed = search_done arcs (residual_out arcs flow) s from_source.search out;
      least = λ same others is_flow value from shut n reached.
          up_to arcs flow marks tree others from (closed_stays arcs nodes joins some same flow others is_flow is (sym value) shut) (level_at marks n) n (omega arith) (ltb-true 0 (level_at marks n) reached);
    }
