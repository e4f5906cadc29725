-- Limits: the lots set for each key of a product group, the lots used of them today, and the room left.
use Rattle.std.specs.Prelude.{◌≡◌, ℕ, suc, ◌-◌, ◌<◌, ◌≤◌, ◌&&◌, Bool, List, Option, Some, None, is_some, length, position, slice_get, slice_index, if◌then◌else◌}
use Rattle.std.specs.List.{find}
use Rattle.std.specs.Option.{option_map, option_map_or}
use Rattle.gu_terms.specs.LimitKeys.{key_eq}
use Rattle.gu_terms.specs.Same.{same_group}
use Rattle.gu_terms.specs.declared.group.Group.{Group}
use Rattle.gu_terms.specs.declared.limit_key.LimitKey.{LimitKey}
use Rattle.gu_terms.specs.declared.limit_row.LimitRow.{LimitRow}
use Rattle.gu_limits.specs.declared.numbers.PathLimits.{PathLimits}

-- a limit in a group, and the lots of it used today
pub record GroupLimit : Type 0 where
  pub group : Group
  pub key : LimitKey
  pub limit : ℕ
  pub used : ℕ

-- two groups are the same, and so are two keys
abbrev pub same_place : Group → LimitKey → Group → LimitKey → Bool
same_place group key other_group other_key = same_group group other_group && key_eq key other_key

-- the limit is for this group and key
abbrev pub is_of : Group → LimitKey → GroupLimit → Bool
is_of group key l = same_place l.group l.key group key

-- the limit for a group and key, if one was set
abbrev pub limit_for : List GroupLimit → Group → LimitKey → Option GroupLimit
limit_for limits group key = find (is_of group key) limits

-- a limit was set for this group and key
abbrev pub has_limit : List GroupLimit → Group → LimitKey → Bool
has_limit limits group key = is_some (limit_for limits group key)

-- the number of a limit: 1 for the first that was set; 0 if it was never set
abbrev pub number_in : List GroupLimit → Group → LimitKey → ℕ
number_in limits group key = option_map_or suc (position (is_of group key) limits) 0

-- these are the limits of the keys in a group: for each key, at its index, the number of its limit; 0 after the last key
pub record AreLimitsOf (limits : List GroupLimit) (group : Group) (keys : List LimitKey) (found : PathLimits) : Type 0 where
  pub few : length keys ≤ length found.numbers
  pub numbers : (place : ℕ) → place < length found.numbers → slice_index found.numbers place ≡ option_map_or (number_in limits group) (slice_get keys place) 0

-- a limit's lots and the lots of it used today, if it was set
abbrev pub limit_and_use : List GroupLimit → Group → LimitKey → Option (ℕ × ℕ)
limit_and_use limits group key = option_map (λ l. (l.limit, l.used)) (limit_for limits group key)

-- a limit's lots; 0 if it was never set
abbrev pub limit_in : List GroupLimit → Group → LimitKey → ℕ
limit_in limits group key = option_map_or (λ l. l.limit) (limit_for limits group key) 0

-- the lots used today; 0 if the limit was never set
abbrev pub used_in : List GroupLimit → Group → LimitKey → ℕ
used_in limits group key = option_map_or (λ l. l.used) (limit_for limits group key) 0

-- the room left: the limit less its use, and 0 if its use is more
abbrev pub room_in : List GroupLimit → Group → LimitKey → ℕ
room_in limits group key = limit_in limits group key - used_in limits group key

-- a limit as it is now, if it was set
abbrev pub row_in : List GroupLimit → Group → LimitKey → Option LimitRow
row_in limits group key =
    if has_limit limits group key
    then Some (record { key = key; limit = limit_in limits group key; used = used_in limits group key; room = room_in limits group key })
    else None

-- two limits are for the same group and key
abbrev pub same_limit : GroupLimit → GroupLimit → Bool
same_limit a b = same_place a.group a.key b.group b.key
