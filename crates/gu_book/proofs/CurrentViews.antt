-- A view that shows all open offers, and each room as it is now, is its group's.
use Rattle.gu_book.proofs.Words.{◌≡◌, ◌-◌, List, [], ◌∷◌, map, refl, sym, ap, ◌∙◌, subst, AllByRecursion, filter_map, All-from_recursion, recursion_from_All, Entry, Group, LimitKey, Tables, GroupLimit, room_in, Row, open_numbers, open_offer_at, GroupView, IsView, keys_of, Room, room_of, standing_of, group_view, offers_shown, shown, shown_at, version_of, IsBeside, HasRooms, ShowsAll, Totals}
use Rattle.gu_rules.proofs.ViewLemmas.{shown-numbers}

-- rooms from their keys
rooms-by-keys : (limits : List GroupLimit) (group : Group) (rooms : List Room) → AllByRecursion (λ (r : Room). r.lots ≡ room_in limits group r.key) rooms
    → rooms ≡ map (λ k. record { key = k; lots = room_in limits group k }) (map (λ (r : Room). r.key) rooms)
rooms-by-keys limits group [] all = refl
rooms-by-keys limits group (r ∷ rooms) all =
    let rest = rooms-by-keys limits group rooms all.1 in
    λ i. record { key = r.key; lots = all.0 i } ∷ rest i

-- and keys from rooms
rooms-of-keys : (limits : List GroupLimit) (group : Group) (keys : List LimitKey) → AllByRecursion (λ (r : Room). r.lots ≡ room_in limits group r.key) (map (λ k. record { key = k; lots = room_in limits group k }) keys)
rooms-of-keys limits group [] = tt
rooms-of-keys limits group (k ∷ keys) = (refl, rooms-of-keys limits group keys)

module _ (reference : Tables) (history : List Entry) (totals : Totals) (beside : IsBeside reference history totals) where
  -- the open offers, from the totals
  offers-kept : (group : Group) → filter_map (shown_at reference totals.offers) (open_numbers totals.offers group) ≡ offers_shown reference history group
  offers-kept group =
      ap (λ (rows : List Row). filter_map (shown_at reference rows) (open_numbers rows group)) beside.offers
      ∙ sym (shown-numbers (open_offer_at (standing_of history)) (shown reference) (open_numbers (standing_of history) group))

  -- and the rooms
  room-kept : (group : Group) (key : LimitKey) → room_in totals.limits group key ≡ room_of reference history group key
  room-kept group key = λ i. beside.limits group key i - beside.uses group key i

  rooms-kept : (group : Group) (keys : List LimitKey)
      → map (λ k. record { key = k; lots = room_in totals.limits group k }) keys ≡ map {B = Room} (λ k. record { key = k; lots = room_of reference history group k }) keys
  rooms-kept group [] = refl
  rooms-kept group (k ∷ keys) =
      let rest = rooms-kept group keys in
      λ i. record { key = k; lots = room-kept group k i } ∷ rest i

  -- a view that shows everything is its group's
  pub shows-view : (view : GroupView) → IsView view → view.version ≡ version_of history view.group → ShowsAll reference totals view → view ≡ group_view reference history view.group
  shows-view view sound version shows =
      let offers : view.offers ≡ offers_shown reference history view.group = shows.offers ∙ offers-kept view.group in
      let rooms : view.rooms ≡ map (λ k. record { key = k; lots = room_of reference history view.group k }) (keys_of (offers_shown reference history view.group)) =
      rooms-by-keys totals.limits view.group view.rooms (recursion_from_All (λ (r : Room). r.lots ≡ room_in totals.limits view.group r.key) view.rooms shows.rooms)
      ∙ rooms-kept view.group (map (λ (r : Room). r.key) view.rooms)
      ∙ ap (λ (keys : List LimitKey). map (λ k. record { key = k; lots = room_of reference history view.group k }) keys) (sound.rooms ∙ ap keys_of offers) in
      λ i. record { group = view.group; version = version i; offers = offers i; rooms = rooms i }

  -- the view of a group shows everything
  pub view-shows : (view : GroupView) → view ≡ group_view reference history view.group → ShowsAll reference totals view
  view-shows view is = record {
    offers = ap (λ (v : GroupView). v.offers) is ∙ sym (offers-kept view.group);
    rooms = subst (HasRooms totals.limits view.group) (sym (ap (λ (v : GroupView). v.rooms) is ∙ sym (rooms-kept view.group (keys_of (offers_shown reference history view.group)))))
        (All-from_recursion (λ (r : Room). r.lots ≡ room_in totals.limits view.group r.key) (map (λ k. record { key = k; lots = room_in totals.limits view.group k }) (keys_of (offers_shown reference history view.group)))
        (rooms-of-keys totals.limits view.group (keys_of (offers_shown reference history view.group))));
  }
