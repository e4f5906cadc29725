-- The rooms of a view: one for each key on a path.
use Rattle.gu_view.proofs.Words.{◌≡◌, ◌≢◌, ℕ, ◌<◌, ◌||◌, not, Bool, true, false, List, [], ◌∷◌, Some, length, map, slice_get, refl, sym, ap, ◌∙◌, arith, inl, inr, All, AllPairs, filter, AllByRecursion, list_any, flat_map, cases_Bool, or_left, or_right, length-map, get_or-map, All-from_recursion, recursion_from_All, option_map, list_any_at, slice_get_cases, slice_get_within, get_or_from_slice_get, slice_get-map, same_Some, LimitKey, key_eq, has_key, key_eq-same, key_eq-refl, key_eq-sym, get_or, not-true, cases_order, All-filter, filter_passes, has_room, ViewOffer, Room, GroupView, IsView, firsts, keys_of, place_of, places_under, Later, AllPairs-from_Later, along, list_any-map, list_any-flat_map, position_or_len-agree, position_or_len-map, position_or_len-within}
use Rattle.std.specs.List.{position}
use Rattle.gu_view.proofs.PassingPlaces.{places_where-within}

-- removing a key removes no other key
pub has_key-others : (k j : LimitKey) (keys : List LimitKey) → key_eq k j ≡ false → has_key (filter (λ i. not (key_eq k i)) keys) j ≡ has_key keys j
has_key-others k j [] other = refl
has_key-others k j (i ∷ keys) other =
    elim (cases_Bool (key_eq k i)) [
      | inl gone ↦
          let apart : key_eq i j ≡ false = rw (key_eq-same k i gone) at other in
          rw (gone, apart) (has_key-others k j keys other)
      | inr stays ↦ rw stays (ap (λ b. key_eq i j || b) (has_key-others k j keys other))
    ]

-- each key mentioned is in the list of first mentions
pub has_key-firsts : (keys : List LimitKey) (j : LimitKey) → has_key (firsts keys) j ≡ has_key keys j
has_key-firsts [] j = refl
has_key-firsts (k ∷ keys) j =
    elim (cases_Bool (key_eq k j)) [
      | inl same ↦ rw same refl
      | inr other ↦ rw other (has_key-others k j (firsts keys) other ∙ has_key-firsts keys j)
    ]

-- the keys of a view are those on the paths
pub has_key-keys_of : (offers : List ViewOffer) (k : LimitKey) → has_key (keys_of offers) k ≡ list_any (λ o. has_key o.path k) offers
has_key-keys_of offers k =
    has_key-firsts (flat_map (λ (o : ViewOffer). o.path) offers) k ∙ list_any-flat_map (λ (o : ViewOffer). o.path) (λ j. key_eq j k) offers

-- distinct keys stay distinct if some are removed
apart-filter : (p : LimitKey → Bool) (keys : List LimitKey) → Later (λ a b. key_eq a b ≡ false) keys → Later (λ a b. key_eq a b ≡ false) (filter p keys)
apart-filter p [] h = tt
apart-filter p (k ∷ keys) h =
    elim (cases_Bool (p k)) [
      | inl stays ↦ rw stays (recursion_from_All (λ j. key_eq k j ≡ false) (filter p keys) (All-filter p (λ j. key_eq k j ≡ false) keys (All-from_recursion (λ j. key_eq k j ≡ false) keys h.0)), apart-filter p keys h.1)
      | inr goes ↦ rw goes (apart-filter p keys h.1)
    ]

-- each key is in the list of first mentions once
pub apart-firsts : (keys : List LimitKey) → Later (λ a b. key_eq a b ≡ false) (firsts keys)
apart-firsts [] = tt
apart-firsts (k ∷ keys) =
    (along (λ j. not (key_eq k j) ≡ true) (λ j. key_eq k j ≡ false) (filter (λ j. not (key_eq k j)) (firsts keys)) (λ j h. not-true (key_eq k j) h) (recursion_from_All (λ j. not (key_eq k j) ≡ true) (filter (λ j. not (key_eq k j)) (firsts keys)) (filter_passes (λ j. not (key_eq k j)) (firsts keys))), apart-filter (λ j. not (key_eq k j)) (firsts keys) (apart-firsts keys))

-- the rooms of a view have different keys
pub apart : (view : GroupView) → IsView view → (i j : ℕ) (d : Room) → i < length view.rooms → j < length view.rooms → i ≢ j → key_eq (get_or view.rooms i d).key (get_or view.rooms j d).key ≡ false
apart view sound i j d inside within other =
    elim (cases_order i j) [
      | inl same ↦ absurd (other same)
      | inr order ↦ elim order [
        | inl before ↦ pair i j before within
        | inr after ↦ key_eq-sym (get_or view.rooms i d).key (get_or view.rooms j d).key ∙ pair j i after inside
      ]
    ]
  where
    pair : (i j : ℕ) → i < j → j < length view.rooms → key_eq (get_or view.rooms i d).key (get_or view.rooms j d).key ≡ false
    pair i j before within =
        let keys = map (λ (r : Room). r.key) view.rooms in
        let long : length keys ≡ length view.rooms = length-map view.rooms (λ (r : Room). r.key) in
        let all : AllPairs (λ a b. key_eq a b ≡ false) keys = rw sound.rooms (AllPairs-from_Later (λ a b. key_eq a b ≡ false) (keys_of view.offers) (apart-firsts (flat_map (λ (o : ViewOffer). o.path) view.offers))) in
        let i-in : i < length view.rooms = omega arith in
        let at-i = get_or-map (λ (r : Room). r.key) view.rooms i d d.key i-in in
        let at-j = get_or-map (λ (r : Room). r.key) view.rooms j d d.key within in
        rw (← at-i, ← at-j) (all i j d.key before (omega arith))

pub has_room-keys : (rooms : List Room) (k : LimitKey) → has_room rooms k ≡ has_key (map (λ (r : Room). r.key) rooms) k
has_room-keys rooms k = sym (list_any-map (λ (r : Room). r.key) (λ j. key_eq j k) rooms)

-- each key on a path has a room
pub roomed : (view : GroupView) → IsView view → (k : LimitKey) → list_any (λ o. has_key o.path k) view.offers ≡ true → has_room view.rooms k ≡ true
roomed view sound k on_path =
    has_room-keys view.rooms k ∙ ap (λ keys. has_key keys k) sound.rooms ∙ has_key-keys_of view.offers k ∙ on_path

-- a key of a path is on it
pub on_own_path : (path : List LimitKey) → AllByRecursion (λ k. has_key path k ≡ true) path
on_own_path path = each path (λ k here. here)
  where
    each : (keys : List LimitKey) → ((k : LimitKey) → has_key keys k ≡ true → has_key path k ≡ true) → AllByRecursion (λ k. has_key path k ≡ true) keys
    each [] inside = tt
    each (k ∷ keys) inside =
        (inside k (or_left (key_eq k k) (has_key keys k) (key_eq-refl k)), each keys (λ j there. inside j (or_right (key_eq k j) (has_key keys j) there)))

-- so it has an index among the rooms
pub places_within : (view : GroupView) → IsView view → (path : List LimitKey) → AllByRecursion (λ k. list_any (λ o. has_key o.path k) view.offers ≡ true) path
    → AllByRecursion (λ p. p < length view.rooms) (map (place_of view.rooms) path)
places_within view sound [] on_path = tt
places_within view sound (k ∷ path) on_path =
    (position_or_len-within (λ r. key_eq r.key k) view.rooms (roomed view sound k on_path.0), places_within view sound path on_path.1)

-- the path of the offer at an index is among the offers' paths
pub on_path_at : (offers : List ViewOffer) (i : ℕ) (o : ViewOffer) (k : LimitKey) → slice_get offers i ≡ Some o → has_key o.path k ≡ true → list_any (λ o. has_key o.path k) offers ≡ true
on_path_at offers i o k at on_path =
    list_any_at (λ o. has_key o.path k) offers i o (slice_get_within offers i o at) (rw (get_or_from_slice_get offers i o o at) on_path)

-- the indexes of an offer's keys are those of rooms
pub places_are_within : (view : GroupView) → IsView view → (places : List (List ℕ)) (i : ℕ) (list : List ℕ) → i < length view.offers
    → places ≡ map (λ (o : ViewOffer). map (place_of view.rooms) o.path) view.offers → slice_get places i ≡ Some list → All (λ p. p < length view.rooms) list
places_are_within view sound places i list inside are at =
    elim (slice_get_cases view.offers i).1 [
      | inl found ↦
          let o = found.0 in
          let same : map (place_of view.rooms) o.path ≡ list =
          same_Some _ _ (ap (option_map (λ (o : ViewOffer). map (place_of view.rooms) o.path)) (sym found.2) ∙ sym (slice_get-map (λ (o : ViewOffer). map (place_of view.rooms) o.path) view.offers i) ∙ ap (λ l. slice_get l i) (sym are) ∙ at) in
          rw (← same) (All-from_recursion (λ p. p < length view.rooms) (map (place_of view.rooms) o.path) (places_within view sound o.path (along (λ k. has_key o.path k ≡ true) (λ k. list_any (λ o. has_key o.path k) view.offers ≡ true) o.path (λ k h. on_path_at view.offers i o k found.2 h) (on_own_path o.path))))
      | inr past ↦ absurd (omega (arith, past.0))
    ]

-- the indexes of a room's offers are those of offers
pub members_are_within : (offers : List ViewOffer) (rooms : List Room) (members : List (List ℕ)) (i : ℕ) (list : List ℕ) → i < length rooms
    → members ≡ map (λ (r : Room). places_under offers r.key) rooms → slice_get members i ≡ Some list → All (λ p. p < length offers) list
members_are_within offers rooms members i list inside are at =
    elim (slice_get_cases rooms i).1 [
      | inl found ↦
          let r = found.0 in
          let same : places_under offers r.key ≡ list =
          same_Some _ _ (ap (option_map (λ (r : Room). places_under offers r.key)) (sym found.2) ∙ sym (slice_get-map (λ (r : Room). places_under offers r.key) rooms i) ∙ ap (λ l. slice_get l i) (sym are) ∙ at) in
          rw (← same) (places_where-within (λ o. has_key o.path r.key) offers)
      | inr past ↦ absurd (omega (arith, past.0))
    ]

-- a key is looked up among the keys or among the rooms
pub position-keys : (test : LimitKey → Bool) (rooms : List Room) (key : LimitKey) → ((j : LimitKey) → test j ≡ key_eq key j)
    → position test (map (λ (r : Room). r.key) rooms) ≡ position (λ r. key_eq r.key key) rooms
position-keys test rooms key same =
    let at = position_or_len-map (λ (r : Room). r.key) test rooms ∙ position_or_len-agree (λ r. test r.key) (λ r. key_eq r.key key) rooms (λ r. same r.key ∙ key_eq-sym key r.key) in
    let long = length-map rooms (λ (r : Room). r.key) in
    rw (at, long) refl
