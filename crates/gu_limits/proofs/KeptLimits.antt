-- Limits as stored: look-ups, setting or charging one, and the start of a day.
use Rattle.gu_limits.proofs.Words.{◌≡◌, ◌∙◌, sym, refl, ap, subst, ℕ, zero, suc, ◌+◌, ◌-◌, ◌≤◌, ◌&&◌, ◌||◌, ◌==◌, Bool, true, false, cond, List, [], ◌∷◌, ◌++◌, map, length, Option, Some, None, is_some, slice_get, inl, inr, eq-eqb, arith, All, AllByRecursion, IsDistinct, keys_of, values_of, lookup, set_value, option_map, option_map_or, cases_Bool, eqb-true, map-append, insert_entry, set_value_at, eq_is, key_eq-sym, key_eq, same_group, Group, LimitKey, GroupKey, KeptLimit, limits_after_charge, limits_after_return, limits_after_setting, limits_of_new_day, lots_under, IsWithin, limit_on, set_to, unused, used_on, GroupLimit, has_limit, is_of, limit_and_use, limit_for, limit_in, room_in, same_limit, same_place, used_in}
use Rattle.std.specs.Cmp.{IsEquivalence}
use Rattle.std.proofs.lemmas.List.Elements.{All-cons, All-head, All-nil, All-tail}
use Rattle.std.proofs.lemmas.Map.{NonePasses, keys-set_value, none_passes_from_lookup}
use Rattle.std.proofs.lemmas.Map.Entries.{none_past_head}
use Rattle.std.proofs.lemmas.Map.Keys.{IsDistinct-cons, IsDistinct-head, IsDistinct-tail}
use Rattle.gu_limits.specs.contracts.table.GroupKeyPartialEq.TheImpl as group_key
use Rattle.gu_limits.proofs.LimitLemmas.{same_place-one, same_place-refl, same_place-sym}

-- ---- the `==` of groups and keys, with which the map finds limits

abbrev pub same : GroupKey → GroupKey → Bool
same = group_key.eq-value.it

same_as : (a b : GroupKey) → same a b ≡ same_place a.group a.key b.group b.key
same_as a b = ap (λ keys. same_group a.group b.group && keys) (eq_is a.key b.key)

-- it compares a limit's group and key
pub same_is : (a b : GroupKey) → same a b ≡ same_place b.group b.key a.group a.key
same_is a b = same_as a b ∙ same_place-sym a.group a.key b.group b.key

pub same-one : (a b : GroupKey) → same a b ≡ true → a ≡ b
same-one a b h =
    let one = same_place-one a.group a.key b.group b.key (sym (same_as a b) ∙ h) in
    λ i. record { group = one.0 i; key = one.1 i }

pub same-laws : IsEquivalence same
same-laws = record {
  refl = λ a. same_as a a ∙ same_place-refl a.group a.key;
  symm = λ a b. same_as a b ∙ sym (same_is b a);
  congr = λ a b c h. ap (λ k. same k c) (same-one a b h);
}

-- ---- look-ups

module _ (day : ℕ) (on : GroupKey) where
  pub limit_for-kept : (es : List (GroupKey × KeptLimit)) → limit_for (map (limit_on day) es) on.group on.key ≡ option_map (λ kept. limit_on day (on, kept)) (lookup (same on) es)
  limit_for-kept [] = refl
  limit_for-kept (e ∷ es) =
      rw (same_is on e.0, limit_for-kept es)
      (by (is_of on.group on.key (limit_on day e)) refl)
    where
      by : (b : Bool) → is_of on.group on.key (limit_on day e) ≡ b
          → cond b (Some (limit_on day e)) (option_map (λ kept. limit_on day (on, kept)) (lookup (same on) es))
          ≡ option_map (λ kept. limit_on day (on, kept)) (cond b (Some e.1) (lookup (same on) es))
      by true h = let one = same_place-one e.0.group e.0.key on.group on.key h in λ i. Some (limit_on day (record { group = one.0 i; key = one.1 i }, e.1))
      by false h = refl

  module _ (es : List (GroupKey × KeptLimit)) where
    -- whether a limit was set
    pub known-kept : has_limit (map (limit_on day) es) on.group on.key ≡ is_some (lookup (same on) es)
    known-kept =
        ap is_some (limit_for-kept es)
        ∙ elim (lookup (same on) es) as (λ o. is_some (option_map (λ kept. limit_on day (on, kept)) o) ≡ is_some o) [ None ↦ refl | Some kept ↦ refl ]

    -- its lots
    pub limit-kept : limit_in (map (limit_on day) es) on.group on.key ≡ option_map_or (λ (kept : KeptLimit). kept.limit) (lookup (same on) es) 0
    limit-kept =
        ap (λ o. option_map_or (λ (l : GroupLimit). l.limit) o 0) (limit_for-kept es)
        ∙ elim (lookup (same on) es) as (λ o. option_map_or (λ (l : GroupLimit). l.limit) (option_map (λ kept. limit_on day (on, kept)) o) 0 ≡ option_map_or (λ (kept : KeptLimit). kept.limit) o 0) [ None ↦ refl | Some kept ↦ refl ]

    -- its use
    pub used-kept : used_in (map (limit_on day) es) on.group on.key ≡ option_map_or (used_on day) (lookup (same on) es) 0
    used-kept =
        ap (λ o. option_map_or (λ (l : GroupLimit). l.used) o 0) (limit_for-kept es)
        ∙ elim (lookup (same on) es) as (λ o. option_map_or (λ (l : GroupLimit). l.used) (option_map (λ kept. limit_on day (on, kept)) o) 0 ≡ option_map_or (used_on day) o 0) [ None ↦ refl | Some kept ↦ refl ]

    -- its lots and its use
    pub limit_and_use-kept : limit_and_use (map (limit_on day) es) on.group on.key ≡ option_map (λ kept. (kept.limit, used_on day kept)) (lookup (same on) es)
    limit_and_use-kept =
        ap (option_map (λ (l : GroupLimit). (l.limit, l.used))) (limit_for-kept es)
        ∙ elim (lookup (same on) es) as
        (λ o. option_map (λ (l : GroupLimit). (l.limit, l.used)) (option_map (λ kept. limit_on day (on, kept)) o) ≡ option_map {U = ℕ × ℕ} (λ kept. (kept.limit, used_on day kept)) o)
        [ None ↦ refl | Some kept ↦ refl ]

    -- the room left, from the result of a look-up
    pub room-kept : (o : Option KeptLimit) → lookup (same on) es ≡ o
        → room_in (map (limit_on day) es) on.group on.key ≡ option_map_or (λ (kept : KeptLimit). kept.limit - used_on day kept) o 0
    room-kept o found =
        (λ i. limit-kept i - used-kept i)
        ∙ ap (λ o. option_map_or (λ (kept : KeptLimit). kept.limit) o 0 - option_map_or (used_on day) o 0) found
        ∙ elim o as (λ o. option_map_or (λ (kept : KeptLimit). kept.limit) o 0 - option_map_or (used_on day) o 0 ≡ option_map_or (λ (kept : KeptLimit). kept.limit - used_on day kept) o 0) [ None ↦ refl | Some kept ↦ refl ]

none-apart : IsDistinct same_limit []
unfolding IsDistinct
none-apart = tt

-- distinct groups and keys in the map make limits distinct
pub once-kept : (day : ℕ) (es : List (GroupKey × KeptLimit)) → IsDistinct same (keys_of es) → IsDistinct same_limit (map (limit_on day) es)
once-kept day [] apart = none-apart
once-kept day (e ∷ es) apart =
    IsDistinct-cons same_limit (limit_on day e) (map (limit_on day) es)
    (others es (IsDistinct-head same e.0 (keys_of es) apart))
    (once-kept day es (IsDistinct-tail same e.0 (keys_of es) apart))
  where
    others : (es : List (GroupKey × KeptLimit)) → AllByRecursion (λ k. same e.0 k ≡ false) (keys_of es) → AllByRecursion (λ l. same_limit (limit_on day e) l ≡ false) (map (limit_on day) es)
    others [] h = tt
    others (f ∷ es) h = (sym (same_as e.0 f.0) ∙ h.0, others es h.1)

-- ---- writing one limit

module _ (on : GroupKey) (to : KeptLimit → KeptLimit) where
  -- the entry is written, if it is of that group and key
  abbrev pub step : GroupKey × KeptLimit → GroupKey × KeptLimit
  step e = cond (same on e.0) (e.0, to e.1) e

  -- if there is no such entry, nothing is written
  untouched : (es : List (GroupKey × KeptLimit)) → NonePasses (same on) es → map step es ≡ es
  untouched [] h = refl
  untouched (e ∷ es) h = rw h.0 (ap (λ rest. e ∷ rest) (untouched es h.1))

  -- if there is one, only that is written
  pub written : (es : List (GroupKey × KeptLimit)) (kept : KeptLimit) → IsDistinct same (keys_of es) → lookup (same on) es ≡ Some kept → set_value (same on) es (to kept) ≡ map step es
  written [] kept apart found = cc
  written (e ∷ es) kept apart found =
      elim (cases_Bool (same on e.0)) [
        | inl hit ↦
            let own : Some e.1 ≡ Some kept = rw hit at found in
            let one : kept ≡ e.1 = cc in
            rw (hit, one) (ap (λ rest. (e.0, to e.1) ∷ rest) (sym (untouched es (none_past_head same-laws on e es apart hit))))
        | inr miss ↦ rw miss (ap (λ rest. e ∷ rest) (written es kept (IsDistinct-tail same e.0 (keys_of es) apart) (rw miss at found)))
      ]

-- a property of all entries still holds after a write, if it holds of the entry written
pub All-written : (P : KeptLimit → Type 0) (test : GroupKey → Bool) (es : List (GroupKey × KeptLimit)) (w : KeptLimit) → All (λ e. P e.1) es → P w → All (λ e. P e.1) (set_value test es w)
All-written P test [] w all new = All-nil (λ e. P e.1)
All-written P test (e ∷ es) w all new =
    elim (cases_Bool (test e.0)) [
      | inl hit ↦ rw hit (All-cons (λ e. P e.1) (e.0, w) es new (All-tail (λ e. P e.1) e es all))
      | inr miss ↦ rw miss (All-cons (λ e. P e.1) e (set_value test es w) (All-head (λ e. P e.1) e es all) (All-written P test es w (All-tail (λ e. P e.1) e es all) new))
    ]

-- and it holds of the entry that a look-up finds
pub All-found : (P : KeptLimit → Type 0) (test : GroupKey → Bool) (es : List (GroupKey × KeptLimit)) (kept : KeptLimit) → All (λ e. P e.1) es → lookup test es ≡ Some kept → P kept
All-found P test [] kept all found = cc
All-found P test (e ∷ es) kept all found =
    elim (cases_Bool (test e.0)) [
      | inl hit ↦ let own : Some e.1 ≡ Some kept = rw hit at found in let one : e.1 ≡ kept = cc in subst P one (All-head (λ e. P e.1) e es all)
      | inr miss ↦ All-found P test es kept (All-tail (λ e. P e.1) e es all) (rw miss at found)
    ]

-- limits, one by one
each : (f g : GroupKey × KeptLimit → GroupLimit) → ((e : GroupKey × KeptLimit) → f e ≡ g e) → (es : List (GroupKey × KeptLimit)) → map f es ≡ map g es
each f g agree [] = refl
each f g agree (e ∷ es) = λ i. agree e i ∷ each f g agree es i

map-after : (f : GroupKey × KeptLimit → GroupLimit) (to : GroupKey × KeptLimit → GroupKey × KeptLimit) (es : List (GroupKey × KeptLimit)) → map f (map to es) ≡ map (λ e. f (to e)) es
map-after f to [] = refl
map-after f to (e ∷ es) = ap (λ rest. f (to e) ∷ rest) (map-after f to es)

after-map : (f : GroupLimit → GroupLimit) (of : GroupKey × KeptLimit → GroupLimit) (es : List (GroupKey × KeptLimit)) → map f (map of es) ≡ map (λ e. f (of e)) es
after-map f of [] = refl
after-map f of (e ∷ es) = ap (λ rest. f (of e) ∷ rest) (after-map f of es)

-- writing a stored limit changes that limit
pub changed : (day : ℕ) (on : GroupKey) (to : KeptLimit → KeptLimit) (f : GroupLimit → GroupLimit)
    → ((e : GroupKey × KeptLimit) → same on e.0 ≡ true → limit_on day (e.0, to e.1) ≡ f (limit_on day e))
    → ((e : GroupKey × KeptLimit) → same on e.0 ≡ false → limit_on day e ≡ f (limit_on day e))
    → (es : List (GroupKey × KeptLimit)) → map (limit_on day) (map (step on to) es) ≡ map f (map (limit_on day) es)
changed day on to f here others es =
    map-after (limit_on day) (step on to) es
    ∙ each (λ e. limit_on day (step on to e)) (λ e. f (limit_on day e)) one es
    ∙ sym (after-map f (limit_on day) es)
  where
    one : (e : GroupKey × KeptLimit) → limit_on day (step on to e) ≡ f (limit_on day e)
    one e =
        elim (cases_Bool (same on e.0)) [
          | inl hit ↦ ap (λ b. limit_on day (cond b (e.0, to e.1) e)) hit ∙ here e hit
          | inr miss ↦ ap (λ b. limit_on day (cond b (e.0, to e.1) e)) miss ∙ others e miss
        ]

-- ---- lots charged or given back under one key

-- lots count under one key if it is that key
lots_under-one : (g : Group) (k : LimitKey) (lots : ℕ) (at : Group) (on : LimitKey) → lots_under g (k ∷ []) lots at on ≡ cond (same_place at on g k) lots 0
lots_under-one g k lots at on =
    rw (key_eq-sym on k)
    (elim (same_group at g) as (λ b. cond (b && (key_eq k on || false)) lots 0 ≡ cond (b && key_eq k on) lots 0) [
      | true ↦ elim (key_eq k on) as (λ b. cond (b || false) lots 0 ≡ cond b lots 0) [ true ↦ refl | false ↦ refl ]
      | false ↦ refl
    ])

-- the use on the limit's own day
used_on-own : (day used limit : ℕ) → used_on day (record { limit = limit; used = used; day = day }) ≡ used
used_on-own day used limit = ap (λ b. cond b used 0) (eq-eqb day day refl)

module _ (day : ℕ) (on : GroupKey) (lots : ℕ) where
  -- a limit after its use is changed on a day
  abbrev pub using : (ℕ → ℕ) → KeptLimit → KeptLimit
  using change kept = record kept { used = change (used_on day kept); day = day }

  charged : (e : GroupKey × KeptLimit) (b : Bool) → same on e.0 ≡ b → lots_under on.group (on.key ∷ []) lots e.0.group e.0.key ≡ cond b lots 0
  charged e b h = lots_under-one on.group on.key lots e.0.group e.0.key ∙ ap (λ b. cond b lots 0) (sym (same_is on e.0) ∙ h)

  pub charge-kept : (es : List (GroupKey × KeptLimit)) → map (limit_on day) (map (step on (using (λ used. used + lots))) es) ≡ limits_after_charge (map (limit_on day) es) on.group (on.key ∷ []) lots
  charge-kept es = changed day on (using (λ used. used + lots)) _
      (λ e hit. ap (λ used. record (limit_on day e) { used = used }) (used_on-own day (used_on day e.1 + lots) e.1.limit ∙ ap (λ n. used_on day e.1 + n) (sym (charged e true hit))))
      (λ e miss. let none = charged e false miss in let same_use : used_on day e.1 ≡ used_on day e.1 + lots_under on.group (on.key ∷ []) lots e.0.group e.0.key = omega arith in ap (λ used. record (limit_on day e) { used = used }) same_use)
      es

  pub return-kept : (es : List (GroupKey × KeptLimit)) → map (limit_on day) (map (step on (using (λ used. used - lots))) es) ≡ limits_after_return (map (limit_on day) es) on.group (on.key ∷ []) lots
  return-kept es = changed day on (using (λ used. used - lots)) _
      (λ e hit. ap (λ used. record (limit_on day e) { used = used }) (used_on-own day (used_on day e.1 - lots) e.1.limit ∙ ap (λ n. used_on day e.1 - n) (sym (charged e true hit))))
      (λ e miss. let none = charged e false miss in let same_use : used_on day e.1 ≡ used_on day e.1 - lots_under on.group (on.key ∷ []) lots e.0.group e.0.key = omega arith in ap (λ used. record (limit_on day e) { used = used }) same_use)
      es

-- ---- setting a limit

insert-present : (es : List (GroupKey × KeptLimit)) (on : GroupKey) (kept w : KeptLimit) → lookup (same on) es ≡ Some kept → insert_entry same es on w ≡ set_value (same on) es w
insert-present [] on kept w found = cc
insert-present (e ∷ es) on kept w found =
    elim (cases_Bool (same on e.0)) [
      | inl hit ↦ rw hit refl
      | inr miss ↦ rw miss (ap (λ rest. e ∷ rest) (insert-present es on kept w (rw miss at found)))
    ]

insert-absent : (es : List (GroupKey × KeptLimit)) (on : GroupKey) (w : KeptLimit) → lookup (same on) es ≡ None → insert_entry same es on w ≡ es ++ (on, w) ∷ []
insert-absent [] on w none = refl
insert-absent (e ∷ es) on w none =
    elim (cases_Bool (same on e.0)) [
      | inl hit ↦ let found : Some e.1 ≡ None = rw hit at none in cc
      | inr miss ↦ rw miss (ap (λ rest. e ∷ rest) (insert-absent es on w (rw miss at none)))
    ]

module _ (day : ℕ) (on : GroupKey) (lots : ℕ) where
  abbrev pub setting : KeptLimit → KeptLimit
  setting kept = record kept { limit = lots }

  -- if it was set before
  pub set-present : (es new : List (GroupKey × KeptLimit)) (kept : KeptLimit) → lookup (same on) es ≡ Some kept → new ≡ insert_entry same es on (setting kept) → IsDistinct same (keys_of new)
      → (map (limit_on day) new ≡ limits_after_setting (map (limit_on day) es) on.group on.key lots)
  set-present es new kept found is apart =
      let put : new ≡ set_value (same on) es (setting kept) = is ∙ insert-present es on kept (setting kept) found in
      let keys : keys_of new ≡ keys_of es = ap keys_of put ∙ keys-set_value (same on) es (setting kept) in
      let known : has_limit (map (limit_on day) es) on.group on.key ≡ true = known-kept day on es ∙ ap is_some found in
      ap (map (limit_on day)) (put ∙ written on setting es kept (subst (IsDistinct same) keys apart) found)
      ∙ changed day on setting (λ l. record l { limit = cond (is_of on.group on.key l) lots l.limit })
      (λ e hit. ap (λ b. record (limit_on day e) { limit = cond b lots e.1.limit }) (sym hit ∙ same_is on e.0))
      (λ e miss. ap (λ b. record (limit_on day e) { limit = cond b lots e.1.limit }) (sym miss ∙ same_is on e.0))
      es
      ∙ sym (ap (λ b. cond b (map (λ (l : GroupLimit). record l { limit = cond (is_of on.group on.key l) lots l.limit }) (map (limit_on day) es)) (map (limit_on day) es ++ (record { group = on.group; key = on.key; limit = lots; used = 0 }) ∷ [])) known)

  -- if it wasn't
  pub set-absent : (es new : List (GroupKey × KeptLimit)) → lookup (same on) es ≡ None → new ≡ insert_entry same es on (record { limit = lots; used = 0; day = day })
      → (map (limit_on day) new ≡ limits_after_setting (map (limit_on day) es) on.group on.key lots)
  set-absent es new none is =
      let fresh : KeptLimit = record { limit = lots; used = 0; day = day } in
      let unknown : has_limit (map (limit_on day) es) on.group on.key ≡ false = known-kept day on es ∙ ap is_some none in
      ap (map (limit_on day)) (is ∙ insert-absent es on fresh none)
      ∙ map-append (limit_on day) es ((on, fresh) ∷ [])
      ∙ ap (λ used. map (limit_on day) es ++ (record { group = on.group; key = on.key; limit = lots; used = used }) ∷ []) (used_on-own day 0 lots)
      ∙ sym (ap (λ b. cond b (map (λ (l : GroupLimit). record l { limit = cond (is_of on.group on.key l) lots l.limit }) (map (limit_on day) es)) (map (limit_on day) es ++ (record { group = on.group; key = on.key; limit = lots; used = 0 }) ∷ [])) unknown)

  -- in either case
  pub set-kept : (es new : List (GroupKey × KeptLimit)) → new ≡ insert_entry same es on (set_to day lots (lookup (same on) es)) → IsDistinct same (keys_of new)
      → (map (limit_on day) new ≡ limits_after_setting (map (limit_on day) es) on.group on.key lots)
  set-kept es new is apart = by (lookup (same on) es) refl
    where
      by : (o : Option KeptLimit) → lookup (same on) es ≡ o → map (limit_on day) new ≡ limits_after_setting (map (limit_on day) es) on.group on.key lots
      by None e = set-absent es new e (is ∙ ap (λ o. insert_entry same es on (set_to day lots o)) e)
      by (Some kept) e = set-present es new kept e (is ∙ ap (λ o. insert_entry same es on (set_to day lots o)) e) apart

  -- it is at most the highest limit
  pub set-within : (es : List (GroupKey × KeptLimit)) → All (λ e. IsWithin day e.1) es → lots ≤ 1000000000 → IsWithin day (set_to day lots (lookup (same on) es))
  set-within es all most = by (lookup (same on) es) refl
    where
      by : (o : Option KeptLimit) → lookup (same on) es ≡ o → IsWithin day (set_to day lots o)
      by None e = record { limit = most; used = omega arith; charged = omega arith }
      by (Some kept) e = let own = All-found (IsWithin day) (same on) es kept all e in record { limit = most; used = own.used; charged = own.charged }

-- a property of all entries still holds after an insertion, if it holds of the new one
pub All-inserted : (P : KeptLimit → Type 0) (es : List (GroupKey × KeptLimit)) (on : GroupKey) (w : KeptLimit) → All (λ e. P e.1) es → P w → All (λ e. P e.1) (insert_entry same es on w)
All-inserted P [] on w all new = All-cons (λ e. P e.1) (on, w) [] new all
All-inserted P (e ∷ es) on w all new =
    elim (cases_Bool (same on e.0)) [
      | inl hit ↦ rw hit (All-cons (λ e. P e.1) (e.0, w) es new (All-tail (λ e. P e.1) e es all))
      | inr miss ↦ rw miss (All-cons (λ e. P e.1) e (insert_entry same es on w) (All-head (λ e. P e.1) e es all) (All-inserted P es on w (All-tail (λ e. P e.1) e es all) new))
    ]

-- ---- a day begins

-- lots charged on an earlier day aren't used on the next
later : (day : ℕ) (kept : KeptLimit) → kept.day ≤ day → used_on (day + 1) kept ≡ 0
later day kept before =
    elim (cases_Bool (kept.day == day + 1)) [
      | inl hit ↦ absurd (omega (arith, eqb-true kept.day (day + 1) hit))
      | inr miss ↦ ap (λ b. cond b kept.used 0) miss
    ]

pub next-day : (day : ℕ) (es : List (GroupKey × KeptLimit)) → All (λ e. IsWithin day e.1) es → map (limit_on (day + 1)) es ≡ limits_of_new_day (map (limit_on day) es)
next-day day [] all = refl
next-day day (e ∷ es) all =
    λ i. (record { group = e.0.group; key = e.0.key; limit = e.1.limit; used = later day e.1 (All-head (λ e. IsWithin day e.1) e es all).charged i })
    ∷ next-day day es (All-tail (λ e. IsWithin day e.1) e es all) i

pub first-day : (day : ℕ) (es : List (GroupKey × KeptLimit)) → map (limit_on 0) (map unused es) ≡ limits_of_new_day (map (limit_on day) es)
first-day day [] = refl
first-day day (e ∷ es) = ap (λ rest. (record { group = e.0.group; key = e.0.key; limit = e.1.limit; used = 0 }) ∷ rest) (first-day day es)

pub within-unused : (day : ℕ) (es : List (GroupKey × KeptLimit)) → All (λ e. IsWithin day e.1) es → All (λ e. IsWithin 0 e.1) (map unused es)
within-unused day [] all = All-nil (λ e. IsWithin 0 e.1)
within-unused day (e ∷ es) all =
    let own = All-head (λ e. IsWithin day e.1) e es all in
    All-cons (λ e. IsWithin 0 e.1) (unused e) (map unused es) (record { limit = own.limit; used = omega arith; charged = omega arith }) (within-unused day es (All-tail (λ e. IsWithin day e.1) e es all))

-- the first entries are unused, and the others are unchanged
abbrev pub unused_before : ℕ → List (GroupKey × KeptLimit) → List (GroupKey × KeptLimit)
unused_before place [] = []
unused_before zero (e ∷ es) = e ∷ es
unused_before (suc place) (e ∷ es) = unused e ∷ unused_before place es

pub unused-none : (es : List (GroupKey × KeptLimit)) → unused_before 0 es ≡ es
unused-none [] = refl
unused-none (e ∷ es) = refl

pub unused-more : (place : ℕ) (es : List (GroupKey × KeptLimit)) (kept : KeptLimit) → slice_get (values_of (unused_before place es)) place ≡ Some kept
    → set_value_at (unused_before place es) place (record kept { used = 0; day = 0 }) ≡ unused_before (suc place) es
unused-more place [] kept here = cc
unused-more zero (e ∷ es) kept here =
    let own : Some e.1 ≡ Some kept = here in
    let one : kept ≡ e.1 = cc in
    ap (λ (kept : KeptLimit). (e.0, record kept { used = 0; day = 0 }) ∷ es) one ∙ ap (λ rest. unused e ∷ rest) (sym (unused-none es))
unused-more (suc place) (e ∷ es) kept here = ap (λ rest. unused e ∷ rest) (unused-more place es kept here)

pub unused-all : (es : List (GroupKey × KeptLimit)) → unused_before (length es) es ≡ map unused es
unused-all [] = refl
unused-all (e ∷ es) = ap (λ rest. unused e ∷ rest) (unused-all es)

pub length-unused_before : (place : ℕ) (es : List (GroupKey × KeptLimit)) → length (unused_before place es) ≡ length es
length-unused_before place [] = refl
length-unused_before zero (e ∷ es) = refl
length-unused_before (suc place) (e ∷ es) = ap suc (length-unused_before place es)

-- ---- the invariant of the type, room and use

pub used_on-le : (day : ℕ) (kept : KeptLimit) → IsWithin day kept → used_on day kept ≤ 1000000000
used_on-le day kept within = elim (kept.day == day) as (λ b. cond b kept.used 0 ≤ 1000000000) [ true ↦ within.used | false ↦ omega arith ]

-- no limit and no use is above the highest limit
pub limits-within : (day : ℕ) (es : List (GroupKey × KeptLimit)) → All (λ e. IsWithin day e.1) es → (g : Group) (k : LimitKey) → limit_in (map (limit_on day) es) g k ≤ 1000000000
limits-within day es all g k = rw (limit-kept day (record { group = g; key = k }) es) (by (lookup (same (record { group = g; key = k })) es) refl)
  where
    by : (o : Option KeptLimit) → lookup (same (record { group = g; key = k })) es ≡ o → option_map_or (λ (kept : KeptLimit). kept.limit) o 0 ≤ 1000000000
    by None e = omega arith
    by (Some kept) e = (All-found (IsWithin day) (same (record { group = g; key = k })) es kept all e).limit

pub uses-within : (day : ℕ) (es : List (GroupKey × KeptLimit)) → All (λ e. IsWithin day e.1) es → (g : Group) (k : LimitKey) → used_in (map (limit_on day) es) g k ≤ 1000000000
uses-within day es all g k = rw (used-kept day (record { group = g; key = k }) es) (by (lookup (same (record { group = g; key = k })) es) refl)
  where
    by : (o : Option KeptLimit) → lookup (same (record { group = g; key = k })) es ≡ o → option_map_or (used_on day) o 0 ≤ 1000000000
    by None e = omega arith
    by (Some kept) e = used_on-le day kept (All-found (IsWithin day) (same (record { group = g; key = k })) es kept all e)
