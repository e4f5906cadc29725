-- Lists of arcs, laid out one room after another.
use Rattle.gu_flow.proofs.Words.{◌≡◌, ◌≢◌, ℕ, zero, suc, slice_get, ◌+◌, ◌^◌, ◌<◌, ◌≤◌, ◌==◌, ◌⊎◌, min, cond, List, [], ◌∷◌, ◌++◌, map, length, arith, refl, inl, inr, All, AllByRecursion, cases_lt, cond_both, get_or_append_left, get_or_push, length_push, All-from_get_or, sum_by-le, step_of, lots_with, GroupView, IsView, place_of, no_arc, arc_at, capacities, JoinsNodes, node_or_sink, node_at, no_room, room_at, capacity_of, way_of, IsArcOf, Arc, AgreementId, LimitKey, Exec, Agr, Acct, Carry, Guar, ViewOffer}
use Rattle.gu_flow.proofs.RoomPlaces.{roomed}

-- each arc is that of the room at its index
pub record IsLaidOut (view : GroupView) (arcs : List Arc) : Type 0 where
  pub each : (k : ℕ) → k < length arcs → IsArcOf view k (arc_at arcs k)

-- one more arc is laid out
pub laid_more : (view : GroupView) (arcs : List Arc) (a : Arc) (place : ℕ) → IsLaidOut view arcs → length arcs ≡ place → IsArcOf view place a → IsLaidOut view (arcs ++ a ∷ [])
laid_more view arcs a place laid long is = record {
  each = λ k k_in. elim (cases_lt k (length arcs)) [
    | inl before ↦ rw (get_or_append_left arcs (a ∷ []) no_arc k before) (laid.each k before)
    | inr last ↦ let here : k ≡ place = omega (arith, length_push arcs a) in rw (here, get_or_push arcs a no_arc place long) is
  ];
}

-- the ends of an arc are nodes
place_within : (n : ℕ) (way : List ℕ) (i : ℕ) → AllByRecursion (λ p. p < n) way → node_or_sink (slice_get way i) < n + 2
place_within n [] i each = omega arith
place_within n (p ∷ way) zero each = omega (arith, each.0)
place_within n (p ∷ way) (suc i) each = place_within n way i each.1

node_within : (n : ℕ) (way : List ℕ) (i : ℕ) → AllByRecursion (λ p. p < n) way → node_at way i < n + 2
node_within n way i each =
    cond_both (i == 0) 0 (node_or_sink (slice_get way (cond (i == 1) 0 i))) (λ node. node < n + 2) (λ _. omega arith) (λ _. place_within n way (cond (i == 1) 0 i) each)

-- the indexes of a path's keys are small if each key's is
pub places_within : (n : ℕ) (f : LimitKey → ℕ) (path : List LimitKey) → AllByRecursion (λ k. f k < n) path → AllByRecursion (λ p. p < n) (map f path)
places_within n f [] each = tt
places_within n f (k ∷ path) each = (each.0, places_within n f path each.1)

pub arcs_join : (view : GroupView) (arcs : List Arc) → IsView view → length arcs ≡ length view.rooms → IsLaidOut view arcs → JoinsNodes arcs (length view.rooms + 2)
arcs_join view arcs sound long laid = All-from_get_or (λ a. (a.from < length view.rooms + 2) × (a.to < length view.rooms + 2)) arcs no_arc (λ k k_in.
    let n = length view.rooms in
    let h = laid.each k k_in in
    let way = way_of view.rooms h.offer in
    let each = places_within n (place_of view.rooms) h.offer.path (roomed view sound h.offer h.known) in
    let within : (i : ℕ) → node_at way i < n + 2 = λ i. node_within n way i each in
    (rw h.from (within _), rw h.to (within _)))

-- the capacity of an agreement's arc is its room, but at most what its offers have
pub record IsAgreement (offers : List ViewOffer) (room capacity : ℕ) (key : LimitKey) : Type 0 where
  pub agreement : AgreementId
  pub is : key ≡ Agr agreement
  pub capacity_is : capacity ≡ min room (lots_with offers key)

-- the capacity of any other arc is its room; only an agreement's is at the middle step
pub kind_of : (offers : List ViewOffer) (room capacity : ℕ) (key : LimitKey) → capacity ≡ capacity_of offers room key → IsAgreement offers room capacity key ⊎ ((capacity ≡ room) × (step_of key ≢ 1))
kind_of offers room capacity (Agr agreement) is = inl (record { agreement = agreement; is = refl; capacity_is = is })
kind_of offers room capacity (Exec firm) is = inr (is, omega arith)
kind_of offers room capacity (Acct account) is = inr (is, omega arith)
kind_of offers room capacity (Carry firm) is = inr (is, omega arith)
kind_of offers room capacity (Guar firm) is = inr (is, omega arith)

pub capacity-le : (offers : List ViewOffer) (room capacity : ℕ) (key : LimitKey) → capacity ≡ capacity_of offers room key → capacity ≤ room
capacity-le offers room capacity key is = elim (kind_of offers room capacity key is) [ inl a ↦ omega (arith, a.capacity_is) | inr other ↦ omega (arith, other.0) ]

-- the total capacity of the arcs is below 2^64
pub arcs_fit : (view : GroupView) (arcs : List Arc) → IsView view → length arcs ≡ length view.rooms → IsLaidOut view arcs → capacities arcs < 2 ^ 64
arcs_fit view arcs sound long laid =
    let small : All (λ a. a.capacity ≤ 1000000000) arcs = All-from_get_or (λ a. a.capacity ≤ 1000000000) arcs no_arc (λ k k_in.
    omega (arith, capacity-le view.offers (room_at view.rooms k).lots _ (room_at view.rooms k).key (laid.each k k_in).capacity, sound.limits k no_room (omega (arith, k_in)))) in
    omega (arith, sum_by-le (λ a. a.capacity) 1000000000 arcs small, sound.few_rooms)
