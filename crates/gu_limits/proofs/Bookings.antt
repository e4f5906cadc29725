-- Lots charged or given back under several keys, one key after another.
use Rattle.gu_limits.proofs.Words.{◌≡◌, ◌∙◌, sym, refl, ap, subst, ℕ, zero, suc, ◌+◌, ◌-◌, ◌≤◌, ◌<◌, ◌&&◌, ◌||◌, Bool, true, false, cond, List, [], ◌∷◌, ◌++◌, map, length, take, get_or, Option, Some, None, inl, inr, is_some, arith, All, IsDistinct, option_map, option_map_or, cases_Bool, list_any-append, same_group-true, key_eq-same, has_key, key_eq, same_group, Group, LimitKey, Charges, Returns, SameLimits, limits_after_charge, limits_after_return, limits_of_new_day, lots_under, GroupLimit, limit_for, room_in, used_in}
use Rattle.std.proofs.lemmas.List.Elements.{All-head, All-tail}
use Rattle.std.proofs.lemmas.Map.Keys.{IsDistinct-tail, apart_from_distinct}
use Rattle.gu_limits.proofs.LimitLemmas.{found_place, limit_for-map, same_limits, used-map}

-- a property of all keys is one of each of them
pub holds_of_key : (P : LimitKey → Type 0) (keys : List LimitKey) (k : LimitKey) → All P keys → has_key keys k ≡ true → P k
holds_of_key P [] k all among = cc
holds_of_key P (j ∷ keys) k all among =
    elim (cases_Bool (key_eq j k)) [
      | inl hit ↦ subst P (key_eq-same j k hit) (All-head P j keys all)
      | inr miss ↦ holds_of_key P keys k (All-tail P j keys all) (rw miss at among)
    ]

-- distinct keys: a key isn't among those before it
pub not_before : (keys : List LimitKey) (i : ℕ) (d : LimitKey) → IsDistinct key_eq keys → i < length keys → has_key (take i keys) (get_or keys i d) ≡ false
not_before [] i d apart inside = absurd (omega arith)
not_before (j ∷ keys) zero d apart inside = refl
not_before (j ∷ keys) (suc i) d apart inside =
    let other : key_eq j (get_or keys i d) ≡ false = apart_from_distinct key_eq (j ∷ keys) 0 (suc i) d apart (omega arith) inside in
    rw (other) (not_before keys i d (IsDistinct-tail key_eq j keys apart) (omega arith))

-- the lots under one more key, which isn't among the others
pub lots_under-push : (group : Group) (keys : List LimitKey) (k : LimitKey) (lots : ℕ) (at : Group) (on : LimitKey) → has_key keys k ≡ false
    → lots_under group (keys ++ k ∷ []) lots at on ≡ lots_under group keys lots at on + lots_under group (k ∷ []) lots at on
lots_under-push group keys k lots at on apart =
    rw (list_any-append (λ j. key_eq j on) keys (k ∷ []))
    (by (same_group at group) (has_key keys on) (key_eq k on) refl refl)
  where
    by : (g a b : Bool) → has_key keys on ≡ a → key_eq k on ≡ b
        → cond (g && (a || (b || false))) lots 0 ≡ cond (g && a) lots 0 + cond (g && (b || false)) lots 0
    by false a b e f = omega arith
    by true false false e f = omega arith
    by true false true e f = omega arith
    by true true false e f = omega arith
    by true true true e f =
        let both : has_key keys k ≡ true = ap (has_key keys) (key_eq-same k on f) ∙ e in cc

-- no lots count under a key that isn't among them
pub lots_under-none : (group : Group) (keys : List LimitKey) (k : LimitKey) (lots : ℕ) (at : Group) → has_key keys k ≡ false → lots_under group keys lots at k ≡ 0
lots_under-none group keys k lots at apart =
    rw apart (elim (same_group at group) as (λ b. cond (b && false) lots 0 ≡ 0) [ true ↦ refl | false ↦ refl ])

-- two changes of each limit in succession are one change
twice : (f g h : GroupLimit → GroupLimit) → ((l : GroupLimit) → g (f l) ≡ h l) → (ls : List GroupLimit) → map g (map f ls) ≡ map h ls
twice f g h agree [] = refl
twice f g h agree (l ∷ ls) = λ i. agree l i ∷ twice f g h agree ls i

-- ---- lots that count under keys change the use of each limit: they are added to it, or subtracted from it

module _ (change : ℕ → ℕ → ℕ) (still : (used : ℕ) → change used 0 ≡ used) (both : (used a b : ℕ) → change (change used a) b ≡ change used (a + b)) (lots : ℕ) where
  abbrev pub after : Group → List LimitKey → List GroupLimit → List GroupLimit
  after group keys ls = map (λ (l : GroupLimit). record l { used = change l.used (lots_under group keys lots l.group l.key) }) ls

  -- if no lots count, nothing changes
  pub after-nothing : (group : Group) (keys : List LimitKey) → ((at : Group) (on : LimitKey) → lots_under group keys lots at on ≡ 0) → (ls : List GroupLimit) → after group keys ls ≡ ls
  after-nothing group keys none [] = refl
  after-nothing group keys none (l ∷ ls) = λ i. (record l { used = (ap (change l.used) (none l.group l.key) ∙ still l.used) i }) ∷ after-nothing group keys none ls i

  module _ (group : Group) where
    -- nothing changes under no keys
    pub after-none : (ls : List GroupLimit) → after group [] ls ≡ ls
    after-none = after-nothing group [] (λ at on. elim (same_group at group) as (λ b. cond (b && false) lots 0 ≡ 0) [ true ↦ refl | false ↦ refl ])

    -- under one more key
    pub after-push : (keys : List LimitKey) (k : LimitKey) → has_key keys k ≡ false → (ls : List GroupLimit) → after group (k ∷ []) (after group keys ls) ≡ after group (keys ++ k ∷ []) ls
    after-push keys k apart ls =
        twice _ _ _ (λ l. ap (λ used. record l { used = used }) (both l.used _ _ ∙ ap (change l.used) (sym (lots_under-push group keys k lots l.group l.key apart)))) ls

    -- the limit of a key that isn't among them is unchanged
    pub after-apart : (keys : List LimitKey) (k : LimitKey) → has_key keys k ≡ false → (ls : List GroupLimit) → limit_for (after group keys ls) group k ≡ limit_for ls group k
    after-apart keys k apart ls = limit_for-map _ (λ g k l. refl) ls group k ∙ by (limit_for ls group k) refl
      where
        by : (o : Option GroupLimit) → limit_for ls group k ≡ o → option_map (λ (l : GroupLimit). record l { used = change l.used (lots_under group keys lots l.group l.key) }) o ≡ o
        by None e = refl
        by (Some l) e =
            let one = found_place ls group k l e in
            let none : lots_under group keys lots l.group l.key ≡ 0 = (λ i. lots_under group keys lots (one.0 i) (one.1 i)) ∙ lots_under-none group keys k lots group apart in
            λ i. Some (record l { used = (ap (change l.used) none ∙ still l.used) i })

module _ (ls : List GroupLimit) (group : Group) (lots : ℕ) (keys : List LimitKey) where
  -- limits stay, and each use grows by the lots that count under its key
  pub charged : All (λ key. lots ≤ room_in ls group key) keys → Charges ls (limits_after_charge ls group keys lots) group keys lots
  charged room = record {
    rows = refl;
    limits = same_limits _ (λ g k l. refl) (λ l. refl) ls;
    uses = λ at on.
        used-map _ (λ g k l. refl) (λ g k used. used + lots_under group keys lots g k) (λ l. refl) ls at on ∙ grown at on (limit_for ls at on) refl;
  }
    where
      no_room : (o : Option GroupLimit) → o ≡ None → option_map_or (λ (l : GroupLimit). l.limit) o 0 - option_map_or (λ (l : GroupLimit). l.used) o 0 ≡ 0
      no_room None h = refl
      no_room (Some l) h = cc

      -- no lots count under a limit that wasn't set, since it has no room
      nowhere : (at : Group) (on : LimitKey) → limit_for ls at on ≡ None → (here among : Bool) → same_group at group ≡ here → has_key keys on ≡ among → cond (here && among) lots 0 ≡ 0
      nowhere at on absent true true h a =
          let fits : lots ≤ room_in ls group on = holds_of_key (λ key. lots ≤ room_in ls group key) keys on room a in
          let none : room_in ls group on ≡ 0 = no_room (limit_for ls group on) (ap (λ g. limit_for ls g on) (sym (same_group-true at group h)) ∙ absent) in
          omega arith
      nowhere at on absent true false h a = refl
      nowhere at on absent false among h a = refl

      grown : (at : Group) (on : LimitKey) (o : Option GroupLimit) → limit_for ls at on ≡ o
          → option_map_or (λ (l : GroupLimit). l.used + lots_under group keys lots at on) o 0 ≡ option_map_or (λ (l : GroupLimit). l.used) o 0 + lots_under group keys lots at on
      grown at on None e = let nothing = nowhere at on e (same_group at group) (has_key keys on) refl refl in omega arith
      grown at on (Some l) e = refl

  -- each use falls by the lots that count under its key, if at least that many are used
  pub returned : All (λ key. lots ≤ used_in ls group key) keys → Returns ls (limits_after_return ls group keys lots) group keys lots
  returned used = record {
    rows = refl;
    limits = same_limits (λ (l : GroupLimit). record l { used = l.used - lots_under group keys lots l.group l.key }) (λ g k l. refl) (λ l. refl) ls;
    uses = λ at on.
        let left = used-map (λ (l : GroupLimit). record l { used = l.used - lots_under group keys lots l.group l.key }) (λ g k l. refl) (λ g k used. used - lots_under group keys lots g k) (λ l. refl) ls at on ∙ fallen at on (limit_for ls at on) in
        omega (arith, left, there at on (same_group at group) (has_key keys on) refl refl);
  }
    where
      fallen : (at : Group) (on : LimitKey) (o : Option GroupLimit)
          → option_map_or (λ (l : GroupLimit). l.used - lots_under group keys lots at on) o 0 ≡ option_map_or (λ (l : GroupLimit). l.used) o 0 - lots_under group keys lots at on
      fallen at on None = omega arith
      fallen at on (Some l) = refl

      there : (at : Group) (on : LimitKey) (here among : Bool) → same_group at group ≡ here → has_key keys on ≡ among → cond (here && among) lots 0 ≤ used_in ls at on
      there at on true true h a =
          subst (λ g. lots ≤ used_in ls g on) (sym (same_group-true at group h)) (holds_of_key (λ key. lots ≤ used_in ls group key) keys on used a)
      there at on true false h a = omega arith
      there at on false among h a = omega arith

-- ---- a day begins

pub new_day-limits : (ls : List GroupLimit) → SameLimits ls (limits_of_new_day ls)
new_day-limits ls = same_limits _ (λ g k l. refl) (λ l. refl) ls

pub new_day-used : (ls : List GroupLimit) (at : Group) (on : LimitKey) → used_in (limits_of_new_day ls) at on ≡ 0
new_day-used ls at on =
    used-map _ (λ g k l. refl) (λ g k used. 0) (λ l. refl) ls at on ∙ nothing (limit_for ls at on)
  where
    nothing : (o : Option GroupLimit) → let none : ℕ = 0 in option_map_or (λ (l : GroupLimit). none) o none ≡ none
    nothing None = refl
    nothing (Some l) = refl
