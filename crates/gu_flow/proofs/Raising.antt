-- The flow of an agreement's arc is raised, round by round.
use Rattle.gu_flow.proofs.Words.{◌≡◌, ◌≢◌, ℕ, ◌+◌, ◌*◌, ◌/◌, ◌%◌, ◌<◌, ◌≤◌, ◌==◌, min, Bool, true, false, not, cond, List, length, get_or, refl, sym, ◌∙◌, ap, subst, arith, inl, inr, cases_Bool, cases_eq, eq-eqb, ltb-true, ltb-false, Allotment, Arc, Mark, arc_at, is_tail, near, far, other_end, JoinsNodes, KeepsFloors, IsAlike, room_out, inflow, outflow, value_of, IsFlow, IsShut, Pushes, room_inside, AreFixed, CarriesMost, HasRooms, IsAllotment, IsBrought, IsClosedInside, level_at, is_reached}
use Rattle.gu_flow.proofs.Borders.{fixed_more, fixed_stays, most_reached}
use Rattle.gu_flow.proofs.EndLemmas.{near-other_end, far-other_end, other_end-in, other_end-twice}
use Rattle.gu_flow.proofs.Measuring.{rooms_stay}

-- after lots are pushed round it is again a flow of the same value
pub round_is_flow : (arcs : List Arc) (old middle new : List ℕ) (tail head lots end : ℕ) → IsFlow arcs old → IsBrought arcs old middle head tail lots → near arcs end ≡ tail → far arcs end ≡ head → Pushes arcs middle new end lots
    → IsFlow arcs new × (value_of arcs new ≡ value_of arcs old)
round_is_flow arcs old middle new tail head lots end is brought at_tail at_head pushed =
    let same : (n : ℕ) → inflow arcs new n + outflow arcs old n ≡ inflow arcs old n + outflow arcs new n =
    λ n. omega (arith, pushed.nodes n, brought.nodes n, ap (λ m. cond (m == n) lots 0) at_tail, ap (λ m. cond (m == n) lots 0) at_head) in (
      record {
        within = pushed.within;
        kept = λ n not_source not_sink. omega (arith, same n, is.kept n not_source not_sink);
        taken = omega (arith, same 1, is.taken);
      },
      omega (arith, same 1, is.taken),
    )

-- lots pushed along the arc at an index are carried there
pub carries : (old new : List ℕ) (place lots : ℕ) → ((2 * place) % 2 ≡ 0 → get_or new (2 * place / 2) 0 ≡ get_or old (2 * place / 2) 0 + lots) → get_or new place 0 ≡ get_or old place 0 + lots
carries old new place lots h =
    let is : 2 * place / 2 ≡ place = omega arith in
    subst (λ k. get_or new k 0 ≡ get_or old k 0 + lots) is (h (omega arith))

-- the nodes that a forward search has reached are closed, and so are those that a backward search hasn't
shut_inside : (b : Bool) (r : ℕ) → b ≡ true → cond b r 0 ≡ 0 → r ≡ 0
shut_inside true r is h = h
shut_inside false r is h = absurd (cc)

pub closed_ahead : (arcs : List Arc) (a : Allotment) (reached : ℕ → Bool) → IsShut arcs (room_inside arcs a false) reached → IsClosedInside arcs a.floors.items a.flow.items a.regions.items reached
closed_ahead arcs a reached shut = record {
  each = λ e e_in from to same. shut_inside (get_or a.regions.items (near arcs e) 0 == get_or a.regions.items (far arcs e) 0) (room_out arcs a.floors.items a.flow.items e)
      (eq-eqb (get_or a.regions.items (near arcs e) 0) (get_or a.regions.items (far arcs e) 0) same) (shut.each e e_in from to);
}

not_not : (b : Bool) → not b ≡ true → b ≡ false
not_not true h = absurd (cc)
not_not false h = refl

not_off : (b : Bool) → not b ≡ false → b ≡ true
not_off true h = refl
not_off false h = absurd (cc)

pub closed_back : (arcs : List Arc) (a : Allotment) (reached : ℕ → Bool) → IsShut arcs (room_inside arcs a true) reached → IsClosedInside arcs a.floors.items a.flow.items a.regions.items (λ n. not (reached n))
closed_back arcs a reached shut = record {
  each = λ e e_in from to same.
      let d = other_end e in
      let here : near arcs d ≡ far arcs e = near-other_end arcs e in
      let there : far arcs d ≡ near arcs e = far-other_end arcs e in
      let none = shut.each d (other_end-in e (length arcs) e_in) (ap reached here ∙ not_off (reached (far arcs e)) to) (ap reached there ∙ not_not (reached (near arcs e)) from) in
      let room : room_out arcs a.floors.items a.flow.items (other_end d) ≡ 0 = shut_inside (get_or a.regions.items (near arcs d) 0 == get_or a.regions.items (far arcs d) 0) (room_out arcs a.floors.items a.flow.items (other_end d))
      (eq-eqb (get_or a.regions.items (near arcs d) 0) (get_or a.regions.items (far arcs d) 0) (ap (λ n. get_or a.regions.items n 0) here ∙ sym same ∙ sym (ap (λ n. get_or a.regions.items n 0) there))) none in
      subst (λ k. room_out arcs a.floors.items a.flow.items k ≡ 0) (other_end-twice e) room;
}

-- the ends of the arc at a place
pub tail_of : (arcs : List Arc) (place : ℕ) → near arcs (2 * place) ≡ (arc_at arcs place).from
tail_of arcs place =
    let tail : is_tail (2 * place) ≡ true = eq-eqb ((2 * place) % 2) 0 (omega arith) in
    let is : 2 * place / 2 ≡ place = omega arith in
    rw (tail, is) refl

pub head_of : (arcs : List Arc) (place : ℕ) → far arcs (2 * place) ≡ (arc_at arcs place).to
head_of arcs place =
    let tail : is_tail (2 * place) ≡ true = eq-eqb ((2 * place) % 2) 0 (omega arith) in
    let is : 2 * place / 2 ≡ place = omega arith in
    rw (tail, is) refl

module _ (arcs : List Arc) (nodes : ℕ) (joins : JoinsNodes arcs nodes) (some : 0 < nodes) (a now : Allotment) (is : IsAllotment arcs nodes a) (place : ℕ) where
  -- lots are pushed round, and the floor of the arc is its new flow
  pub round_ends : IsFlow arcs now.flow.items → value_of arcs now.flow.items ≡ value_of arcs a.flow.items → KeepsFloors a.floors.items now.flow.items → get_or now.floors.items place 0 ≡ get_or now.flow.items place 0
      → ((k : ℕ) → k ≢ place → get_or now.floors.items k 0 ≡ get_or a.floors.items k 0) → length now.floors.items ≡ length a.floors.items → now.regions ≡ a.regions → HasRooms arcs now → IsAllotment arcs nodes now
  round_ends flow value keeps here others size regions rooms =
      let rise : (k : ℕ) → get_or a.floors.items k 0 ≤ get_or now.floors.items k 0 = λ k. elim (cases_eq k place) [ inl it ↦ rw it (omega (arith, here, keeps.each place)) | inr other ↦ omega (arith, others k other) ] in
      let alike : IsAlike arcs a.floors.items a.flow.items now.flow.items = record { is_flow = flow; value = value; keeps = keeps } in
      record {
        is_flow = flow;
        keeps = record { each = λ k. elim (cases_eq k place) [ inl it ↦ rw it (omega (arith, here)) | inr other ↦ omega (arith, others k other, keeps.each k) ] };
        rooms = rooms;
        floors = size ∙ is.floors;
        regions = ap (λ r. length r.items) regions ∙ is.regions;
        fixed = subst (λ r. AreFixed arcs now.floors.items now.flow.items r.items) (sym regions) (fixed_stays arcs nodes joins some a.floors.items a.flow.items a.regions.items is.is_flow is.fixed now.floors.items now.flow.items alike rise);
      }

  -- two regions are separated, and the arc between them carries as much as it ever can
  module _ (reached : ℕ → Bool) (closed : IsClosedInside arcs a.floors.items a.flow.items a.regions.items reached) (flow : now.flow ≡ a.flow) (floors : now.floors ≡ a.floors) where
    pub parts : now.rooms ≡ a.rooms → length now.regions.items ≡ length a.regions.items → ((n m : ℕ) → reached n ≡ reached m → get_or a.regions.items n 0 ≡ get_or a.regions.items m 0 → get_or now.regions.items n 0 ≡ get_or now.regions.items m 0) → IsAllotment arcs nodes now
    parts rooms size regions = record {
      is_flow = subst (λ f. IsFlow arcs f.items) (sym flow) is.is_flow;
      keeps = subst (λ f. KeepsFloors now.floors.items f.items) (sym flow) (subst (λ f. KeepsFloors f.items a.flow.items) (sym floors) is.keeps);
      rooms = rooms_stay arcs a now is.rooms flow floors rooms;
      floors = ap (λ f. length f.items) floors ∙ is.floors;
      regions = size ∙ is.regions;
      fixed = subst (λ f. AreFixed arcs now.floors.items f.items now.regions.items) (sym flow) (subst (λ f. AreFixed arcs f.items a.flow.items now.regions.items) (sym floors)
          (fixed_more arcs nodes joins some a.floors.items a.flow.items a.regions.items is.is_flow is.fixed reached closed now.regions.items regions));
    }

    pub parts_most : place < length arcs → get_or a.floors.items place 0 ≡ get_or a.flow.items place 0 → reached (arc_at arcs place).from ≡ false → reached (arc_at arcs place).to ≡ true → CarriesMost arcs now.floors.items now.flow.items place
    parts_most place_in here from to = subst (λ f. CarriesMost arcs now.floors.items f.items place) (sym flow) (subst (λ f. CarriesMost arcs f.items a.flow.items place) (sym floors)
        (most_reached arcs nodes joins some a.floors.items a.flow.items a.regions.items is.is_flow is.fixed place place_in here reached closed from to))

-- an arc is raised towards a goal: its floor is its flow up to the goal, and the other floors are unchanged
pub record Raising (arcs : List Arc) (nodes : ℕ) (start older : List ℕ) (a : Allotment) (place goal : ℕ) : Type 0 where
  pub is : IsAllotment arcs nodes a
  pub value : value_of arcs a.flow.items ≡ value_of arcs start
  pub here : get_or a.floors.items place 0 ≡ min (get_or a.flow.items place 0) goal
  pub others : (k : ℕ) → k ≢ place → get_or a.floors.items k 0 ≡ get_or older k 0
  pub rises : get_or older place 0 ≤ get_or a.floors.items place 0

module _ (arcs : List Arc) (nodes : ℕ) (place goal : ℕ) where
  -- nothing is raised yet
  pub raise_begins : JoinsNodes arcs nodes → 0 < nodes → (a now : Allotment) → IsAllotment arcs nodes a → get_or a.floors.items place 0 ≤ goal → now.flow ≡ a.flow → now.regions ≡ a.regions
      → HasRooms arcs now → length now.floors.items ≡ length a.floors.items → get_or now.floors.items place 0 ≡ min (get_or a.flow.items place 0) goal → ((k : ℕ) → k ≢ place → get_or now.floors.items k 0 ≡ get_or a.floors.items k 0)
      → Raising arcs nodes a.flow.items a.floors.items now place goal
  raise_begins joins some a now is within flow regions rooms size here same =
      let rise : (k : ℕ) → get_or a.floors.items k 0 ≤ get_or now.floors.items k 0 = λ k. elim (cases_eq k place) [ inl it ↦ rw it (omega (arith, here, within, is.keeps.each place)) | inr other ↦ omega (arith, same k other) ] in
      let alike : IsAlike arcs a.floors.items a.flow.items a.flow.items = record { is_flow = is.is_flow; value = refl; keeps = is.keeps } in
      let fixed = fixed_stays arcs nodes joins some a.floors.items a.flow.items a.regions.items is.is_flow is.fixed now.floors.items a.flow.items alike rise in
      let keeps : KeepsFloors now.floors.items a.flow.items = record { each = λ k. elim (cases_eq k place) [ inl it ↦ rw it (omega (arith, here)) | inr other ↦ omega (arith, same k other, is.keeps.each k) ] } in
      record {
        is = record {
          is_flow = subst (λ f. IsFlow arcs f.items) (sym flow) is.is_flow;
          keeps = subst (λ f. KeepsFloors now.floors.items f.items) (sym flow) keeps;
          rooms = rooms;
          floors = size ∙ is.floors;
          regions = ap (λ r. length r.items) regions ∙ is.regions;
          fixed = subst (λ f. AreFixed arcs now.floors.items f.items now.regions.items) (sym flow) (subst (λ r. AreFixed arcs now.floors.items a.flow.items r.items) (sym regions) fixed);
        };
        value = ap (λ f. value_of arcs f.items) flow;
        here = here ∙ ap (λ f. min (get_or f.items place 0) goal) (sym flow);
        others = same;
        rises = rise place;
      }

  module _ (start older : List ℕ) (a now : Allotment) (r : Raising arcs nodes start older a place goal) (less : get_or a.floors.items place 0 < goal) where
    pub level : get_or a.floors.items place 0 ≡ get_or a.flow.items place 0
    level = omega (arith, r.here, less)

    -- one round more
    pub raises : IsAllotment arcs nodes now → value_of arcs now.flow.items ≡ value_of arcs a.flow.items → get_or now.floors.items place 0 ≡ get_or now.flow.items place 0 → get_or now.flow.items place 0 ≤ goal
        → get_or a.flow.items place 0 ≤ get_or now.flow.items place 0 → ((k : ℕ) → k ≢ place → get_or now.floors.items k 0 ≡ get_or a.floors.items k 0) → Raising arcs nodes start older now place goal
    raises is value here within more same = record {
      is = is;
      value = value ∙ r.value;
      here = omega (arith, here, within);
      others = λ k other. same k other ∙ r.others k other;
      rises = omega (arith, r.rises, here, more, level);
    }

-- no flow of this value that keeps the older floors has more of the goal
pub raised_most : (arcs : List Arc) (nodes : ℕ) (start older : List ℕ) (a : Allotment) (place goal : ℕ) → Raising arcs nodes start older a place goal → get_or a.floors.items place 0 ≡ get_or a.flow.items place 0
    → CarriesMost arcs a.floors.items a.flow.items place → (others : List ℕ) → IsAlike arcs older a.flow.items others → min (get_or others place 0) goal ≤ get_or a.floors.items place 0
raised_most arcs nodes start older a place goal r here most others alike = omega (arith, here, most.each older others r.others alike)

-- the nodes that a search has reached are made a region
pub set_apart_agrees : (marks : List Mark) (old new : List ℕ) (region : ℕ) → ((n : ℕ) → 0 < level_at marks n → get_or new n 0 ≡ region) → ((n : ℕ) → level_at marks n ≡ 0 → get_or new n 0 ≡ get_or old n 0)
    → (n m : ℕ) → is_reached marks n ≡ is_reached marks m → get_or old n 0 ≡ get_or old m 0 → get_or new n 0 ≡ get_or new m 0
set_apart_agrees marks old new region inside outside n m same were = elim (cases_Bool (is_reached marks n)) [
  | inl here ↦ inside n (ltb-true 0 (level_at marks n) here) ∙ sym (inside m (ltb-true 0 (level_at marks m) (sym same ∙ here)))
  | inr off ↦ outside n (omega (arith, ltb-false 0 (level_at marks n) off)) ∙ were ∙ sym (outside m (omega (arith, ltb-false 0 (level_at marks m) (sym same ∙ off))))
]

pub not_same : (b c : Bool) → not b ≡ not c → b ≡ c
not_same true true h = refl
not_same true false h = absurd (cc)
not_same false true h = absurd (cc)
not_same false false h = refl
