-- The parts that a view stores beside its offers and rooms.
use Rattle.gu_view.proofs.Words.{◌≡◌, ◌≢◌, ℕ, ◌<◌, ◌≤◌, List, [], ◌∷◌, Some, length, map, get_or, slice_get, refl, sym, ap, subst, ◌∙◌, arith, false, inl, inr, All, AllPairs, flat_map, both_ways, get_or-map, length-map, list_any_at, get_or_from_slice_get, slice_get-get_or, slice_get_cases, slice_get_within, has_key, key_eq, LimitKey, key_eq-from, key_eq-refl, MakesView, in_order, view_of, IsIndexed, IsKeyed, GroupView, IsPath, IsView, keys_of, place_among, place_of, places_under, ViewOffer, Room, Later, list_any-map, position_or_len-map, position_or_len-within}
use Rattle.gu_terms.specs.declared.group.Group.{Group}
use Rattle.gu_view.proofs.MakingLemmas.{even_paths, good_offers, in_order-own}
use Rattle.gu_view.proofs.RoomLemmas.{apart, apart-firsts, on_path_at, places_are_within, roomed}
use Rattle.gu_view.proofs.WholePaths.{places_apart}

-- a key's index among the rooms is its index among their keys
place-keys : (rooms : List Room) (k : LimitKey) → place_among (map (λ (r : Room). r.key) rooms) k ≡ place_of rooms k
place-keys rooms k = position_or_len-map (λ (r : Room). r.key) (λ j. key_eq j k) rooms

path-keys : (rooms : List Room) (path : List LimitKey) → map (place_among (map (λ (r : Room). r.key) rooms)) path ≡ map (place_of rooms) path
path-keys rooms [] = refl
path-keys rooms (k ∷ path) = rw (place-keys rooms k, path-keys rooms path) refl

paths-keys : (rooms : List Room) (offers : List ViewOffer) → map (λ (o : ViewOffer). map (place_among (map (λ (r : Room). r.key) rooms)) o.path) offers ≡ map (λ (o : ViewOffer). map (place_of rooms) o.path) offers
paths-keys rooms [] = refl
paths-keys rooms (o ∷ offers) = rw (path-keys rooms o.path, paths-keys rooms offers) refl

-- the rooms of a view have different keys
pub distinct : (view : GroupView) → IsView view → AllPairs (λ a b. a.key ≢ b.key) view.rooms
distinct view sound i j d before within same =
    both_ways (key_eq (get_or view.rooms i d).key (get_or view.rooms j d).key) (apart view sound i j d (omega arith) within (λ e. absurd (omega arith))) (key_eq-from (get_or view.rooms i d).key (get_or view.rooms j d).key same)

module _ (group : Group) (version : ℕ) (offers : List ViewOffer) (rooms : List Room) (keys : List LimitKey) (places : List (List ℕ)) (keyed : IsKeyed offers keys places) (room-keys : map (λ (r : Room). r.key) rooms ≡ keys_of offers) (limits : All (λ r. r.lots ≤ 1000000000) rooms) where
  abbrev pub shown : GroupView
  shown = record { group = group; version = version; offers = offers; rooms = rooms }

  pub as_many : length rooms ≡ length keys
  as_many = sym (length-map rooms (λ (r : Room). r.key)) ∙ ap length (room-keys ∙ sym keyed.keys_are)

  -- the result is a view
  pub sound : IsView shown
  sound =
      let good = good_offers offers keyed.numbers in
      let paths = even_paths offers good.ascending keyed.paths in
      record {
        few = good.few;
        ascending = good.ascending;
        lots = good.lots;
        own = paths.own;
        one_path = paths.one_path;
        rooms = room-keys;
        few_rooms = omega (arith, as_many, keyed.few);
        limits = limits;
      }

  -- of rooms in order
  ordered : in_order (keys_of offers) rooms ≡ rooms
  ordered =
      ap (λ l. in_order l rooms) (sym room-keys)
      ∙ in_order-own rooms (subst (Later (λ a b. key_eq a b ≡ false)) (sym room-keys) (apart-firsts (flat_map (λ (o : ViewOffer). o.path) offers)))

  pub shown-is : shown ≡ view_of group version offers rooms
  shown-is = λ i. record { group = group; version = version; offers = offers; rooms = sym ordered i }

  -- exactly those of the keys
  pub makes : MakesView offers rooms
  makes = record {
    numbers = keyed.numbers;
    paths = keyed.paths;
    exact = record {
      needed = λ i d inside.
          let k = (get_or rooms i d).key in
          ap (λ l. has_key l k) (sym room-keys) ∙ list_any-map (λ (r : Room). r.key) (λ j. key_eq j k) rooms ∙ list_any_at (λ (r : Room). key_eq r.key k) rooms i d inside (key_eq-refl k);
      whole = λ i d inside.
          let k = get_or (keys_of offers) i d in
          sym (list_any-map (λ (r : Room). r.key) (λ j. key_eq j k) rooms) ∙ ap (λ l. has_key l k) room-keys ∙ list_any_at (λ j. key_eq j k) (keys_of offers) i d inside (key_eq-refl k);
      once = distinct shown sound;
      limits = limits;
    };
  }

  pub places_are : places ≡ map (λ (o : ViewOffer). map (place_of rooms) o.path) offers
  places_are = keyed.places_are ∙ ap (λ l. map (λ (o : ViewOffer). map (place_among l) o.path) offers) (keyed.keys_are ∙ sym room-keys) ∙ paths-keys rooms offers

  pub all_within : All (All (λ place. place < length rooms)) places
  all_within i d inside =
      places_are_within shown sound places i (get_or places i d) (omega (arith, ap length places_are, length-map offers (λ (o : ViewOffer). map (place_of rooms) o.path))) places_are (slice_get-get_or places i d inside)

  pub all_apart : All (AllPairs (λ a b. a ≢ b)) places
  all_apart i d inside =
      let list_of : ViewOffer → List ℕ = λ o. map (place_of rooms) o.path in
      let within : i < length offers = omega (arith, ap length places_are, length-map offers list_of) in
      elim (slice_get_cases offers i).1 [
        | inl found ↦
            let o = found.0 in
            let at : get_or offers i o ≡ o = get_or_from_slice_get offers i o o found.2 in
            let list : get_or places i d ≡ list_of o = ap (λ l. get_or l i d) places_are ∙ get_or-map list_of offers i o d within ∙ ap list_of at in
            let roomed_on : (k : LimitKey) (p : ℕ) → slice_get o.path p ≡ Some k → place_of rooms k < length rooms = λ k p on.
            position_or_len-within (λ r. key_eq r.key k) rooms (roomed shown sound k (on_path_at offers i o k found.2 (list_any_at (λ j. key_eq j k) o.path p k (slice_get_within o.path p k on) (rw (get_or_from_slice_get o.path p k k on) (key_eq-refl k))))) in
            subst (AllPairs (λ a b. a ≢ b)) (sym list) (places_apart rooms o (subst IsPath at (keyed.whole i o within)) roomed_on)
        | inr past ↦ absurd (omega (arith, past.0))
      ]

  -- these parts are those of a view
  pub indexed : (members : List (List ℕ)) → members ≡ map (λ (r : Room). places_under offers r.key) rooms → IsIndexed shown keys places members
  indexed members listed = record { sound = sound; whole = keyed.whole; keys_are = keyed.keys_are ∙ sym room-keys; places_are = places_are; members_are = listed }
