-- The rooms of the view of a group are those of its keys, whatever the reference.
use Rattle.gu_days.proofs.Words.{◌≡◌, List, [], ◌∷◌, map, refl, ap, Entry, Group, Tables, keys_of, group_view, offers_shown}
use Rattle.gu_terms.specs.declared.limit_key.LimitKey.{LimitKey}
use Rattle.gu_view.proofs.NearestCuts.{HasRoomsOfKeys}
use Rattle.gu_view.specs.declared.view.Room.{Room}
use Rattle.gu_rules.specs.Limits.{room_of}

-- after any history
pub rooms_of : (reference : Tables) (history : List Entry) (group : Group) → HasRoomsOfKeys (group_view reference history group)
rooms_of reference history group = each (keys_of (offers_shown reference history group))
  where
    each : (keys : List LimitKey) → map (λ (r : Room). r.key) (map {B = Room} (λ key. record { key = key; lots = room_of reference history group key }) keys) ≡ keys
    each [] = refl
    each (k ∷ keys) = ap (λ (l : List LimitKey). k ∷ l) (each keys)
