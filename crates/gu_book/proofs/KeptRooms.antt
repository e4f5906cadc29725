-- The rooms of keys, from the stored limits.
use Rattle.gu_book.proofs.Words.{◌≡◌, ◌≤◌, List, [], ◌∷◌, map, refl, ap, All, All-from_recursion, AllByRecursion, Group, LimitKey, GroupLimit, room_in, Room, rooms_in}

module _ (limits : List GroupLimit) (group : Group) where
  -- the room of a key
  abbrev pub room : LimitKey → Room
  room key = record { key = key; lots = room_in limits group key }

  -- the rooms of keys are at most the highest limit
  within : ((key : LimitKey) → room_in limits group key ≤ 1000000000) → (keys : List LimitKey) → AllByRecursion (λ (r : Room). r.lots ≤ 1000000000) (map room keys)
  within most [] = tt
  within most (k ∷ keys) = (most k, within most keys)

  pub rooms_in-limits : ((key : LimitKey) → room_in limits group key ≤ 1000000000) → (keys : List LimitKey) → All (λ (r : Room). r.lots ≤ 1000000000) (rooms_in limits group keys)
  rooms_in-limits most keys = All-from_recursion (λ (r : Room). r.lots ≤ 1000000000) (map room keys) (within most keys)

  -- and keep the order of the keys
  pub rooms_in-keys : (keys : List LimitKey) → map (λ (r : Room). r.key) (rooms_in limits group keys) ≡ keys
  rooms_in-keys [] = refl
  rooms_in-keys (k ∷ keys) = ap (λ (l : List LimitKey). k ∷ l) (rooms_in-keys keys)
