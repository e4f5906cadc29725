-- How limits change: a limit is set, lots are charged or given back, a day begins.
use Rattle.std.specs.Prelude.{◌≡◌, ℕ, ◌+◌, ◌-◌, ◌≤◌, ◌&&◌, ◌||◌, ◌++◌, All, List, [], ◌∷◌, map, if◌then◌else◌}
use Rattle.std.specs.List.{IsDistinct}
use Rattle.gu_terms.specs.LimitKeys.{has_key, key_eq}
use Rattle.gu_terms.specs.Same.{same_group}
use Rattle.gu_terms.specs.declared.group.Group.{Group}
use Rattle.gu_terms.specs.declared.limit_key.LimitKey.{LimitKey}
use Rattle.gu_limits.specs.declared.numbers.PathLimits.{PathLimits}
use Rattle.gu_limits.specs.Limits.{AreLimitsOf, GroupLimit, has_limit, is_of, limit_in, room_in, same_place, used_in}

-- the lots that count towards a limit if these lots are taken in a group under these keys
abbrev pub lots_under : Group → List LimitKey → ℕ → Group → LimitKey → ℕ
lots_under group keys lots at key = if same_group at group && has_key keys key then lots else 0

-- the limits after one is set: in its place if it was set before, or else last, with nothing of it used
abbrev pub limits_after_setting : List GroupLimit → Group → LimitKey → ℕ → List GroupLimit
limits_after_setting limits group key lots =
    if has_limit limits group key
    then map (λ (l : GroupLimit). record l { limit = if is_of group key l then lots else l.limit }) limits
    else limits ++ record { group = group; key = key; limit = lots; used = 0 } ∷ []

-- no use changes
abbrev pub SameUses : List GroupLimit → List GroupLimit → Type 0
SameUses old new = (group : Group) (key : LimitKey) → used_in new group key ≡ used_in old group key

-- a limit is set, in its place; no other limit changes, and no use
pub record Sets (old new : List GroupLimit) (group : Group) (key : LimitKey) (lots : ℕ) : Type 0 where
  pub rows : new ≡ limits_after_setting old group key lots
  pub known : (at : Group) (on : LimitKey) → has_limit new at on ≡ (same_place at on group key || has_limit old at on)
  pub limits : (at : Group) (on : LimitKey) → limit_in new at on ≡ (if same_place at on group key then lots else limit_in old at on)
  pub uses : SameUses old new

-- the limits after lots are charged in a group under these keys
abbrev pub limits_after_charge : List GroupLimit → Group → List LimitKey → ℕ → List GroupLimit
limits_after_charge limits group keys lots =
    map (λ (l : GroupLimit). record l { used = l.used + lots_under group keys lots l.group l.key }) limits

-- no limit is set or changed
pub record SameLimits (old new : List GroupLimit) : Type 0 where
  pub known : (group : Group) (key : LimitKey) → has_limit new group key ≡ has_limit old group key
  pub lots : (group : Group) (key : LimitKey) → limit_in new group key ≡ limit_in old group key

-- lots are charged under these keys in a group; no limit is set or changed
pub record Charges (old new : List GroupLimit) (group : Group) (keys : List LimitKey) (lots : ℕ) : Type 0 where
  pub rows : new ≡ limits_after_charge old group keys lots
  pub limits : SameLimits old new
  pub uses : (at : Group) (on : LimitKey) → used_in new at on ≡ used_in old at on + lots_under group keys lots at on

-- the limits after charged lots are given back
abbrev pub limits_after_return : List GroupLimit → Group → List LimitKey → ℕ → List GroupLimit
limits_after_return limits group keys lots =
    map (λ (l : GroupLimit). record l { used = l.used - lots_under group keys lots l.group l.key }) limits

-- lots that were charged under these keys in a group are given back; no limit is set or changed
pub record Returns (old new : List GroupLimit) (group : Group) (keys : List LimitKey) (lots : ℕ) : Type 0 where
  pub rows : new ≡ limits_after_return old group keys lots
  pub limits : SameLimits old new
  pub uses : (at : Group) (on : LimitKey) → used_in new at on + lots_under group keys lots at on ≡ used_in old at on

-- these lots may be charged to these limits: they are those of the keys in the group, each key occurs once, and each has room for the lots
pub record MayCharge (limits : List GroupLimit) (group : Group) (keys : List LimitKey) (lots : ℕ) (found : PathLimits) : Type 0 where
  pub under : AreLimitsOf limits group keys found
  pub once : IsDistinct key_eq keys
  pub room : All (λ key. lots ≤ room_in limits group key) keys

-- these lots may be given back to them: each key occurs once, and at least these lots are used under it
pub record MayReturn (limits : List GroupLimit) (group : Group) (keys : List LimitKey) (lots : ℕ) (found : PathLimits) : Type 0 where
  pub under : AreLimitsOf limits group keys found
  pub once : IsDistinct key_eq keys
  pub used : All (λ key. lots ≤ used_in limits group key) keys

-- the limits as a day begins: nothing of them is used
abbrev pub limits_of_new_day : List GroupLimit → List GroupLimit
limits_of_new_day limits = map (λ (l : GroupLimit). record l { used = 0 }) limits
