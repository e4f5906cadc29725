-- The rooms of an allotment follow its flow and its floors.
use Rattle.gu_flow.proofs.Words.{◌≡◌, ◌≢◌, ℕ, ◌+◌, ◌-◌, ◌*◌, ◌/◌, ◌%◌, ◌<◌, Bool, true, false, cond, List, length, get_or, refl, sym, ◌∙◌, ap, arith, inl, inr, cases_Bool, cases_eq, eqb-true, eqb-false, get_or_default, Allotment, Arc, arc_at, is_tail, other_end, room_out, AreMeasured, HasRooms}
use Rattle.gu_flow.specs.Rounds.{room_of}
use Rattle.gu_flow.proofs.EndLemmas.{other_end-in}

-- the room of an end is what can be pushed over it
pub room_there : (arcs : List Arc) (a : Allotment) (e : ℕ) → HasRooms arcs a → e < 2 * length arcs → get_or a.rooms.items e 0 ≡ room_out arcs a.floors.items a.flow.items e
room_there arcs a e rooms e_in =
    let here = rooms.each (e / 2) (omega arith) in
    elim (cases_Bool (is_tail e)) [
      | inl tail ↦
          let is : e ≡ 2 * (e / 2) = omega (arith, eqb-true (e % 2) 0 tail) in
          rw tail (ap (λ n. get_or a.rooms.items n 0) is ∙ here.along)
      | inr head ↦
          let is : e ≡ 2 * (e / 2) + 1 = omega (arith, eqb-false (e % 2) 0 head) in
          rw head (ap (λ n. get_or a.rooms.items n 0) is ∙ here.against)
    ]

-- other regions leave the rooms as they were
pub rooms_stay : (arcs : List Arc) (a now : Allotment) → HasRooms arcs a → now.flow ≡ a.flow → now.floors ≡ a.floors → now.rooms ≡ a.rooms → HasRooms arcs now
rooms_stay arcs a now is flow floors rooms = record {
  size = ap (λ r. length r.items) rooms ∙ is.size;
  each = λ k k_in.
      let here = is.each k k_in in
      record {
        along = ap (λ r. get_or r.items (2 * k) 0) rooms ∙ here.along ∙ ap (λ f. (arc_at arcs k).capacity - get_or f.items k 0) (sym flow);
        against = ap (λ r. get_or r.items (2 * k + 1) 0) rooms ∙ here.against ∙ ap (λ f. get_or f.items k 0 - get_or a.floors.items k 0) (sym flow) ∙ ap (λ f. get_or now.flow.items k 0 - get_or f.items k 0) (sym floors);
      };
}

-- the flow or the floor of one arc has changed, and that arc is measured again
pub measured : (arcs : List Arc) (a changed now : Allotment) (place : ℕ) → HasRooms arcs a → ((k : ℕ) → k ≢ place → get_or changed.flow.items k 0 ≡ get_or a.flow.items k 0)
    → ((k : ℕ) → k ≢ place → get_or changed.floors.items k 0 ≡ get_or a.floors.items k 0) → changed.rooms ≡ a.rooms → AreMeasured arcs now place → ((k : ℕ) → k ≢ place → AreMeasured arcs changed k → AreMeasured arcs now k)
    → length now.rooms.items ≡ length changed.rooms.items → HasRooms arcs now
measured arcs a changed now place is flows floors rooms here others size = record {
  size = size ∙ ap (λ r. length r.items) rooms ∙ is.size;
  each = λ k k_in. elim (cases_eq k place) [
    | inl same ↦ rw same here
    | inr other ↦
        let was = is.each k k_in in
        others k other (record {
          along = ap (λ r. get_or r.items (2 * k) 0) rooms ∙ was.along ∙ ap (λ n. (arc_at arcs k).capacity - n) (sym (flows k other));
          against = ap (λ r. get_or r.items (2 * k + 1) 0) rooms ∙ was.against ∙ ap (λ n. n - get_or a.floors.items k 0) (sym (flows k other)) ∙ ap (λ n. get_or changed.flow.items k 0 - n) (sym (floors k other));
        })
  ];
}

-- an end over which a search looks has the room that was found
over_in : (arcs : List Arc) (back : Bool) (e : ℕ) → e < 2 * length arcs → cond back (other_end e) e < 2 * length arcs
over_in arcs true e e_in = other_end-in e (length arcs) e_in
over_in arcs false e e_in = e_in

pub room_over : (arcs : List Arc) (a : Allotment) (back : Bool) (e over n : ℕ) → HasRooms arcs a → e < 2 * length arcs → over ≡ cond back (other_end e) e → n ≡ get_or a.rooms.items over n → n ≡ room_of arcs a back e
room_over arcs a back e over n rooms e_in is found =
    let end = cond back (other_end e) e in
    let within : over < length a.rooms.items = omega (arith, is, over_in arcs back e e_in, rooms.size) in
    found ∙ get_or_default a.rooms.items over n 0 within ∙ ap (λ k. get_or a.rooms.items k 0) is ∙ room_there arcs a end rooms (over_in arcs back e e_in)

-- within a region or not, where there is no room
pub none_inside : (b : Bool) (n r : ℕ) → n ≡ 0 → n ≡ r → 0 ≡ cond b r 0
none_inside true n r none is = sym none ∙ is
none_inside false n r none is = refl

-- within a region
pub all_inside : (b : Bool) (n r : ℕ) → b ≡ true → n ≡ r → n ≡ cond b r 0
all_inside true n r same is = is
all_inside false n r same is = absurd (cc)
