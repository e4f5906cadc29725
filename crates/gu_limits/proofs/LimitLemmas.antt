-- How a change of limits affects the limit and the use of each group and key.
use Rattle.gu_limits.proofs.Words.{◌≡◌, ◌∙◌, sym, refl, ap, ℕ, ◌||◌, Bool, true, false, cond, List, [], ◌∷◌, ◌++◌, map, Option, Some, None, is_some, inl, inr, find, option_map, option_map_or, option_or, cases_Bool, false_from_ne_true, find-append, same_group-own, same_group-true, key_eq-refl, key_eq-same, key_eq, same_group, Group, LimitKey, SameLimits, SameUses, limits_after_setting, GroupLimit, has_limit, is_of, limit_for, limit_in, same_place, used_in}
use Rattle.gu_terms.proofs.SameValues.{both}

-- ---- groups and keys

-- a group and key are the same as themselves
pub same_place-refl : (g : Group) (k : LimitKey) → same_place g k g k ≡ true
same_place-refl g k = rw (same_group-own g, key_eq-refl k) refl

-- a group and key that compare as the same are equal
pub same_place-one : (g : Group) (k : LimitKey) (h : Group) (j : LimitKey) → same_place g k h j ≡ true → (g ≡ h) × (k ≡ j)
same_place-one g k h j e =
    let p = both (same_group g h) (key_eq k j) e in
    (same_group-true g h p.0, key_eq-same k j p.1)

turned : (g : Group) (k : LimitKey) (h : Group) (j : LimitKey) → same_place g k h j ≡ true → same_place h j g k ≡ true
turned g k h j e =
    let one = same_place-one g k h j e in
    rw (one.0, one.1) (same_place-refl h j)

-- the order of the two doesn't matter
pub same_place-sym : (g : Group) (k : LimitKey) (h : Group) (j : LimitKey) → same_place g k h j ≡ same_place h j g k
same_place-sym g k h j =
    elim (cases_Bool (same_place g k h j)) [
      | inl hit ↦ hit ∙ sym (turned g k h j hit)
      | inr miss ↦ miss ∙ sym (false_from_ne_true (same_place h j g k) (λ hit. let both = turned h j g k hit in cc))
    ]

-- the result of a search passes its test
pub found_passes : {X : Type 0} (test : X → Bool) (xs : List X) (x : X) → find test xs ≡ Some x → test x ≡ true
found_passes test [] x e = cc
found_passes test (y ∷ ys) x e =
    elim (cases_Bool (test y)) [
      | inl hit ↦ let here : Some y ≡ Some x = rw hit at e in let one : y ≡ x = cc in ap test (sym one) ∙ hit
      | inr miss ↦ found_passes test ys x (rw miss at e)
    ]

-- the limit that is found is for that group and key
pub found_place : (ls : List GroupLimit) (g : Group) (k : LimitKey) (l : GroupLimit) → limit_for ls g k ≡ Some l → (l.group ≡ g) × (l.key ≡ k)
found_place ls g k l e = same_place-one l.group l.key g k (found_passes (is_of g k) ls l e)

-- ---- a change of each limit that keeps groups and keys

module _ (f : GroupLimit → GroupLimit) (own : (g : Group) (k : LimitKey) (l : GroupLimit) → is_of g k (f l) ≡ is_of g k l) where
  pub limit_for-map : (ls : List GroupLimit) (g : Group) (k : LimitKey) → limit_for (map f ls) g k ≡ option_map f (limit_for ls g k)
  limit_for-map [] g k = refl
  limit_for-map (l ∷ ls) g k =
      rw (own g k l, limit_for-map ls g k)
      (elim (is_of g k l) as (λ b. cond b (Some (f l)) (option_map f (limit_for ls g k)) ≡ option_map f (cond b (Some l) (limit_for ls g k))) [ true ↦ refl | false ↦ refl ])

  -- a value read from the limit that is found
  read : {Y : Type 0} (of : GroupLimit → Y) (none : Y) (ls : List GroupLimit) (g : Group) (k : LimitKey)
      → option_map_or of (limit_for (map f ls) g k) none ≡ option_map_or (λ l. of (f l)) (limit_for ls g k) none
  read of none ls g k =
      ap (λ o. option_map_or of o none) (limit_for-map ls g k)
      ∙ elim (limit_for ls g k) as (λ o. option_map_or of (option_map f o) none ≡ option_map_or (λ l. of (f l)) o none) [ None ↦ refl | Some l ↦ refl ]

  pub known-map : (ls : List GroupLimit) (g : Group) (k : LimitKey) → has_limit (map f ls) g k ≡ has_limit ls g k
  known-map ls g k =
      ap is_some (limit_for-map ls g k) ∙ elim (limit_for ls g k) as (λ o. is_some (option_map f o) ≡ is_some o) [ None ↦ refl | Some l ↦ refl ]

  -- if each limit keeps its lots, none changes
  pub same_limits : ((l : GroupLimit) → (f l).limit ≡ l.limit) → (ls : List GroupLimit) → SameLimits ls (map f ls)
  same_limits keeps ls = record {
    known = known-map ls;
    lots = λ g k. read (λ l. l.limit) 0 ls g k ∙ elim (limit_for ls g k) as (λ o. option_map_or (λ l. (f l).limit) o 0 ≡ option_map_or (λ l. l.limit) o 0) [ None ↦ refl | Some l ↦ keeps l ];
  }

  -- if each use becomes a function of its group, its key and itself
  pub used-map : (to : Group → LimitKey → ℕ → ℕ) → ((l : GroupLimit) → (f l).used ≡ to l.group l.key l.used) → (ls : List GroupLimit) (g : Group) (k : LimitKey)
      → used_in (map f ls) g k ≡ option_map_or (λ l. to g k l.used) (limit_for ls g k) 0
  used-map to becomes ls g k = read (λ l. l.used) 0 ls g k ∙ by (limit_for ls g k) refl
    where
      by : (o : Option GroupLimit) → limit_for ls g k ≡ o → option_map_or (λ l. (f l).used) o 0 ≡ option_map_or (λ l. to g k l.used) o 0
      by None e = refl
      by (Some l) e =
          let one = found_place ls g k l e in
          becomes l ∙ ap (λ h. to h l.key l.used) one.0 ∙ ap (λ j. to g j l.used) one.1

-- ---- setting a limit

-- the result of a search for each group and key
pub limit_for-setting : (ls : List GroupLimit) (g : Group) (k : LimitKey) (lots : ℕ) (at : Group) (on : LimitKey)
    → limit_for (limits_after_setting ls g k lots) at on
    ≡ cond (same_place at on g k) (Some (record { group = g; key = k; limit = lots; used = used_in ls g k })) (limit_for ls at on)
limit_for-setting ls g k lots at on = by (limit_for ls g k) refl
  where
    set : GroupLimit → GroupLimit
    set l = record l { limit = cond (is_of g k l) lots l.limit }

    with_used : ℕ → Option GroupLimit
    with_used used = Some (record { group = g; key = k; limit = lots; used = used })

    fresh : GroupLimit
    fresh = record { group = g; key = k; limit = lots; used = 0 }

    elsewhere : (o : Option GroupLimit) → limit_for ls at on ≡ o → same_place at on g k ≡ false → option_map set o ≡ o
    elsewhere None e apart = refl
    elsewhere (Some l) e apart =
        let one = found_place ls at on l e in
        let off : is_of g k l ≡ false = ap (λ h. same_place h l.key g k) one.0 ∙ ap (λ j. same_place at j g k) one.1 ∙ apart in
        ap (λ b. Some (record l { limit = cond b lots l.limit })) off

    there : (l : GroupLimit) → limit_for ls g k ≡ Some l → option_map set (Some l) ≡ with_used (used_in ls g k)
    there l e =
        let one = found_place ls g k l e in
        ap (λ b. Some (record l { limit = cond b lots l.limit })) (found_passes (is_of g k) ls l e)
        ∙ (λ i. Some (record { group = one.0 i; key = one.1 i; limit = lots; used = l.used }))
        ∙ sym (ap (λ o. with_used (option_map_or (λ (l : GroupLimit). l.used) o 0)) e)

    moved : same_place at on g k ≡ true → limit_for ls at on ≡ limit_for ls g k
    moved hit = let one = same_place-one at on g k hit in ap (λ h. limit_for ls h on) one.0 ∙ ap (limit_for ls g) one.1

    by : (o : Option GroupLimit) → limit_for ls g k ≡ o
        → limit_for (cond (is_some o) (map set ls) (ls ++ fresh ∷ [])) at on ≡ cond (same_place at on g k) (with_used (used_in ls g k)) (limit_for ls at on)
    by (Some l) e =
        limit_for-map set (λ h j l. refl) ls at on
        ∙ elim (cases_Bool (same_place at on g k)) [
          | inl hit ↦ rw hit (ap (option_map set) (moved hit ∙ e) ∙ there l e)
          | inr miss ↦ rw miss (elsewhere (limit_for ls at on) refl miss)
        ]
    by None e =
        find-append (is_of at on) ls (fresh ∷ [])
        ∙ elim (cases_Bool (same_place at on g k)) [
          | inl hit ↦
              let own : is_of at on fresh ≡ true = same_place-sym g k at on ∙ hit in
              rw (hit, own, moved hit, e) refl
          | inr miss ↦
              let other : is_of at on fresh ≡ false = same_place-sym g k at on ∙ miss in
              rw (miss, other) (elim (limit_for ls at on) as (λ o. option_or o None ≡ o) [ None ↦ refl | Some l ↦ refl ])
        ]

module _ (ls : List GroupLimit) (g : Group) (k : LimitKey) (lots : ℕ) where
  abbrev set_here : GroupLimit
  set_here = record { group = g; key = k; limit = lots; used = used_in ls g k }

  -- that limit is then set, and each other one is set or not as before
  pub known-setting : (at : Group) (on : LimitKey) → has_limit (limits_after_setting ls g k lots) at on ≡ (same_place at on g k || has_limit ls at on)
  known-setting at on =
      ap is_some (limit_for-setting ls g k lots at on)
      ∙ elim (same_place at on g k) as (λ b. is_some (cond b (Some set_here) (limit_for ls at on)) ≡ (b || has_limit ls at on)) [ true ↦ refl | false ↦ refl ]

  -- it has these lots, and each other one keeps its own
  pub limit-setting : (at : Group) (on : LimitKey) → limit_in (limits_after_setting ls g k lots) at on ≡ cond (same_place at on g k) lots (limit_in ls at on)
  limit-setting at on =
      ap (λ o. option_map_or (λ (l : GroupLimit). l.limit) o 0) (limit_for-setting ls g k lots at on)
      ∙ elim (same_place at on g k) as (λ b. option_map_or (λ (l : GroupLimit). l.limit) (cond b (Some set_here) (limit_for ls at on)) 0 ≡ cond b lots (limit_in ls at on)) [ true ↦ refl | false ↦ refl ]

  -- no use changes
  pub used-setting : SameUses ls (limits_after_setting ls g k lots)
  used-setting at on =
      ap (λ o. option_map_or (λ (l : GroupLimit). l.used) o 0) (limit_for-setting ls g k lots at on)
      ∙ elim (cases_Bool (same_place at on g k)) [
        | inl hit ↦ let one = same_place-one at on g k hit in rw hit (sym (ap (λ h. used_in ls h on) one.0 ∙ ap (used_in ls g) one.1))
        | inr miss ↦ rw miss refl
      ]
