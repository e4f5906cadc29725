-- The indexes of keys among the rooms of a view, and the ways that pass them.
use Rattle.gu_flow.proofs.Words.{◌≡◌, ℕ, ◌+◌, min, ◌<◌, ◌≤◌, ◌==◌, Bool, true, cond, List, [], ◌∷◌, suc, length, map, get_or, refl, sym, ◌∙◌, ap, subst, arith, inl, inr, add-zero, zero-add, slice_get, sum_by, IfSome, AllByRecursion, list_any, cases_Bool, cases_eq, eqb-true, eq-eqb, get_or_default, list_any_at, sum_by-le, slice_get_cases, slice_get-get_or, key_eq-same, key_eq-refl, key_eq-from, part-le, position_or_len-within, key_eq, has_key, AgreementId, LimitKey, Agr, same_test, key_at_place, has_room, lots_with, GroupView, IsView, place_of, places_under, ViewOffer, Room, agreement_place, no_room, room_at, no_offer, offer_at, way_of, GoesBy, IsOfferOf, capacity_of}
use Rattle.gu_view.proofs.PassingPlaces.{sum_by-places}
use Rattle.gu_view.proofs.MarkLemmas.{path_inside}
use Rattle.gu_view.proofs.RoomLemmas.{apart, has_key-keys_of, has_room-keys}
use Rattle.gu_view.specs.Places.{places_from}

-- the lots at the indexes under a key are those of the offers with it
pub lots_under_places : (offers : List ViewOffer) (k : LimitKey) (places : List ℕ) → places ≡ places_under offers k → sum_by (λ p. (offer_at offers p).lots) places ≡ lots_with offers k
lots_under_places offers k places are =
    ap (sum_by (λ p. (offer_at offers p).lots)) are
    ∙ sum_by-places (λ (o : ViewOffer). has_key o.path k) (λ (o : ViewOffer). o.lots) (λ p. (offer_at offers p).lots) 0 offers
    (λ i d inside. ap (λ p. (offer_at offers p).lots) (zero-add i) ∙ ap (λ (o : ViewOffer). o.lots) (get_or_default offers i no_offer d inside))

-- they are below 2^64
pub lots_fit : (view : GroupView) → IsView view → (k : LimitKey) → lots_with view.offers k ≤ 4096000000
lots_fit view sound k =
    let all = sum_by-le (λ (o : ViewOffer). cond (has_key o.path k) o.lots 0) 1000000 view.offers (λ i d inside. omega (arith, part-le (has_key (get_or view.offers i d).path k) (get_or view.offers i d).lots, (sound.lots i d inside).most)) in
    omega (arith, all, sound.few)

-- the first index at which a list passes a test
pub record IsFirstPlace {X : Type 0} (test : X → Bool) (from : ℕ) (xs : List X) (d : X) : Type 0 where
  pub some : 0 < length (places_from test from xs)
  pub place : ℕ
  pub is : get_or (places_from test from xs) 0 0 ≡ from + place
  pub within : place < length xs
  pub passes : test (get_or xs place d) ≡ true

pub first_place : {X : Type 0} (test : X → Bool) (from : ℕ) (xs : List X) (d : X) → list_any test xs ≡ true → IsFirstPlace test from xs d
first_place test from [] d found = cc
first_place test from (x ∷ xs) d found = elim (cases_Bool (test x)) [
  | inl hit ↦ record {
    some = rw hit (omega arith);
    place = 0;
    is = rw hit (sym (add-zero from));
    within = omega arith;
    passes = hit;
  }
  | inr miss ↦
      let rest = first_place test (suc from) xs d (rw miss at found) in
      record {
        some = rw miss rest.some;
        place = suc rest.place;
        is = rw miss (rest.is ∙ omega arith);
        within = omega (arith, rest.within);
        passes = rest.passes;
      }
]

-- an offer with a room's key
pub room_named : (view : GroupView) → IsView view → (place : ℕ) → place < length view.rooms → list_any (λ o. has_key o.path (room_at view.rooms place).key) view.offers ≡ true
room_named view sound place inside =
    let k = (room_at view.rooms place).key in
    let here : has_room view.rooms k ≡ true = list_any_at (λ r. key_eq r.key k) view.rooms place no_room inside (key_eq-refl k) in
    sym (has_key-keys_of view.offers k) ∙ ap (λ keys. has_key keys k) (sym sound.rooms) ∙ sym (has_room-keys view.rooms k) ∙ here

-- a room's key has its own index
pub place_of_room : (view : GroupView) → IsView view → (place : ℕ) → place < length view.rooms → place_of view.rooms (room_at view.rooms place).key ≡ place
place_of_room view sound place inside =
    let k = (room_at view.rooms place).key in
    let within : place_of view.rooms k < length view.rooms = position_or_len-within (λ (r : Room). key_eq r.key k) view.rooms (list_any_at (λ r. key_eq r.key k) view.rooms place no_room inside (key_eq-refl k)) in
    elim (cases_eq (place_of view.rooms k) place) [
      | inl same ↦ same
      | inr other ↦
          let differs = apart view sound (place_of view.rooms k) place no_room within inside other in
          let same = key_eq-from (room_at view.rooms (place_of view.rooms k)).key k (key_at_place view.rooms k no_room within) in
          cc
    ]

-- a key with a room has the index of its own room
pub at_place : (view : GroupView) → IsView view → (place : ℕ) (k : LimitKey) → place < length view.rooms → place_of view.rooms k < length view.rooms → (place_of view.rooms k == place) ≡ key_eq k (room_at view.rooms place).key
at_place view sound place k inside within = same_test (place_of view.rooms k == place) (key_eq k (room_at view.rooms place).key)
    (λ here. key_eq-from k (room_at view.rooms place).key (sym (key_at_place view.rooms k no_room within) ∙ ap (λ p. (room_at view.rooms p).key) (eqb-true (place_of view.rooms k) place here)))
    (λ same. eq-eqb (place_of view.rooms k) place (ap (place_of view.rooms) (key_eq-same k (room_at view.rooms place).key same) ∙ place_of_room view sound place inside))

-- each key of an offer's path has a room
pub roomed : (view : GroupView) → IsView view → (o : ViewOffer) → IsOfferOf view o → AllByRecursion (λ k. place_of view.rooms k < length view.rooms) o.path
roomed view sound o h = path_inside view sound h.place o h.within (h.is ∙ get_or_default view.offers h.place no_offer o h.within)

-- so a way passes an index if the path has the key of its room
pub goes_by_key : (view : GroupView) → IsView view → (place : ℕ) → place < length view.rooms → (path : List LimitKey) → AllByRecursion (λ k. place_of view.rooms k < length view.rooms) path
    → list_any (λ p. p == place) (map (place_of view.rooms) path) ≡ has_key path (room_at view.rooms place).key
goes_by_key view sound place inside [] roomed = refl
goes_by_key view sound place inside (k ∷ path) roomed = rw (at_place view sound place k inside roomed.0, goes_by_key view sound place inside path roomed.1) refl

-- the first of the offers with a room's key
pub record IsFirstOffer (view : GroupView) (place number : ℕ) : Type 0 where
  pub within : number < length view.offers
  pub goes_by : GoesBy (way_of view.rooms (offer_at view.offers number)) place

pub first_offer : (view : GroupView) → IsView view → (place : ℕ) (members : List ℕ) → place < length view.rooms → IfSome (slice_get view.rooms place) (λ (r : Room). members ≡ places_under view.offers r.key)
    → (0 < length members) × IsFirstOffer view place (get_or members 0 0)
first_offer view sound place members inside are = elim (slice_get_cases view.rooms place).1 [
  | inl found ↦
      let r = found.0 in
      let same : members ≡ places_under view.offers r.key = rw found.2 at are in
      let key : (room_at view.rooms place).key ≡ r.key = ap (λ (r : Room). r.key) (get_or_default view.rooms place no_room r inside ∙ found.3) in
      let f = first_place (λ (o : ViewOffer). has_key o.path r.key) 0 view.offers no_offer (subst (λ k. list_any (λ o. has_key o.path k) view.offers ≡ true) key (room_named view sound place inside)) in
      let number : get_or members 0 0 ≡ f.place = ap (λ l. get_or l 0 0) same ∙ f.is ∙ zero-add f.place in
      let o = offer_at view.offers f.place in (
        rw same f.some,
        record {
          within = omega (arith, number, f.within);
          goes_by = subst (λ n. GoesBy (way_of view.rooms (offer_at view.offers n)) place) (sym number)
              (goes_by_key view sound place inside o.path (roomed view sound o (record { place = f.place; within = f.within; is = refl })) ∙ ap (has_key o.path) key ∙ f.passes);
        },
      )
  | inr past ↦ absurd (omega (arith, past.0))
]

-- the lots at the indexes of a room's offers are those with its key
pub lots_of_members : (view : GroupView) (place : ℕ) (members : List ℕ) → place < length view.rooms → IfSome (slice_get view.rooms place) (λ (r : Room). members ≡ places_under view.offers r.key)
    → sum_by (λ p. (offer_at view.offers p).lots) members ≡ lots_with view.offers (room_at view.rooms place).key
lots_of_members view place members inside are =
    lots_under_places view.offers (room_at view.rooms place).key members
    (rw (slice_get-get_or view.rooms place no_room inside) at are)

-- the room read at an index
pub own_room : (rooms : List Room) (place : ℕ) (r : Room) → place < length rooms → r ≡ get_or rooms place r → r ≡ room_at rooms place
own_room rooms place r inside is = is ∙ get_or_default rooms place r no_room inside

-- the capacity of an agreement's arc is its room, but at most what its offers have
pub agreement_capacity : (offers : List ViewOffer) (r q : Room) (agreement : AgreementId) (lots n : ℕ) → r ≡ q → r.key ≡ Agr agreement → lots ≡ lots_with offers q.key → n ≡ min r.lots lots → n ≡ capacity_of offers q.lots q.key
agreement_capacity offers r q agreement lots n same key all is =
    let named : q.key ≡ Agr agreement = ap (λ (r : Room). r.key) (sym same) ∙ key in
    is ∙ ap (λ m. min r.lots m) (all ∙ ap (lots_with offers) named) ∙ ap (λ (r : Room). min r.lots (lots_with offers (Agr agreement))) same ∙ ap (capacity_of offers q.lots) (sym named)

-- the way read from the offer at an index
pub own_way : (view : GroupView) (number : ℕ) (way : List ℕ) → number < length view.offers → IfSome (slice_get view.offers number) (λ (o : ViewOffer). way ≡ map (place_of view.rooms) o.path) → way ≡ way_of view.rooms (offer_at view.offers number)
own_way view number way inside are = rw (slice_get-get_or view.offers number no_offer inside) at are

-- the index of an offer's agreement
pub agreement_read : (view : GroupView) (number place : ℕ) → number < length view.offers → IfSome (slice_get view.offers number) (λ (o : ViewOffer). place ≡ place_of view.rooms (Agr o.agreement))
    → place ≡ agreement_place view.rooms (offer_at view.offers number)
agreement_read view number place inside at = rw (slice_get-get_or view.offers number no_offer inside) at at
