-- The indexes of limits: what a look-up finds, what is stored there, and the effect of a change there.
use Rattle.gu_limits.proofs.Words.{◌≡◌, ◌∙◌, ◌+◌, ◌-◌, ◌<◌, ◌≤◌, ◌&&◌, ◌⊎◌, sym, ap, refl, subst, inl, inr, ℕ, zero, suc, Bool, true, false, cond, List, [], ◌∷◌, ◌++◌, map, length, get_or, not, nat_lt, position, slice_get, slice_index, take, Option, Some, None, arith, All, IsDistinct, find, position_or_len, keys_of, values_of, option_map, option_map_or, ltb-false, ltb-true, take_all, take_more, find_at, set_value_at, has_key, key_eq, same_group, Group, LimitKey, GroupKey, KeptLimit, MayCharge, MayReturn, limits_after_charge, limits_after_return, IsWithin, limit_on, used_on, AreLimitsOf, GroupLimit, is_of, limit_for, number_in}
use Rattle.std.proofs.lemmas.Option.{get_or_from_slice_get, slice_get-map, slice_get_cases, slice_get_past, slice_get_within}
use Rattle.gu_terms.proofs.Standing.{lookup-standing, set_value_at-standing, value-standing}
use Rattle.gu_terms.specs.Standing.{StandsAt}
use Rattle.gu_limits.specs.declared.numbers.PathLimits.{PathLimits}
use Rattle.gu_limits.proofs.Bookings.{after, after-apart, after-nothing, after-push, not_before}
use Rattle.gu_limits.proofs.KeptLimits.{All-written, charge-kept, return-kept, same, same-laws, same-one, same_is, step, used_on-le, using, written}
use Rattle.gu_limits.proofs.LimitLemmas.{found_place}

-- the first item that passes a test is at its index
pub placed : {X : Type 0} (test : X → Bool) (xs : List X) (n : ℕ) → position test xs ≡ Some n → (n < length xs) × (slice_get xs n ≡ find test xs)
placed test xs n at = by (nat_lt (position_or_len test xs) (length xs)) refl at
  where
    by : (b : Bool) → nat_lt (position_or_len test xs) (length xs) ≡ b → cond b (Some (position_or_len test xs)) None ≡ Some n → (n < length xs) × (slice_get xs n ≡ find test xs)
    by true e h =
        let one : position_or_len test xs ≡ n = cc in
        (subst (λ k. k < length xs) one (ltb-true (position_or_len test xs) (length xs) e), ap (slice_get xs) (sym one) ∙ sym (find_at test xs))
    by false e h = cc

-- an item at no index isn't found
not_placed : {X : Type 0} (test : X → Bool) (xs : List X) → position test xs ≡ None → find test xs ≡ None
not_placed test xs at = by (nat_lt (position_or_len test xs) (length xs)) refl at
  where
    by : (b : Bool) → nat_lt (position_or_len test xs) (length xs) ≡ b → cond b (Some (position_or_len test xs)) None ≡ None → find test xs ≡ None
    by true e h = cc
    by false e h = find_at test xs ∙ slice_get_past xs (position_or_len test xs) (ltb-false (position_or_len test xs) (length xs) e)

-- there is an item at each place
item-at : {X : Type 0} (xs : List X) (n : ℕ) → n < length xs → (x : X) × (slice_get xs n ≡ Some x)
item-at [] n inside = absurd (omega arith)
item-at (x ∷ xs) zero inside = (x, refl)
item-at (x ∷ xs) (suc n) inside = item-at xs n (omega arith)

-- an index is the same in a list whose items pass alike
module _ {X Y : Type 0} (test : X → Bool) (other : Y → Bool) (f : X → Y) (alike : (x : X) → other (f x) ≡ test x) where
  before-map : (xs : List X) → position_or_len other (map f xs) ≡ position_or_len test xs
  before-map [] = refl
  before-map (x ∷ xs) = λ i. cond (not (alike x i)) (1 + before-map xs i) 0

  length-same : (xs : List X) → length (map f xs) ≡ length xs
  length-same [] = refl
  length-same (x ∷ xs) = ap suc (length-same xs)

  pub position-map : (xs : List X) → position other (map f xs) ≡ position test xs
  position-map xs = λ i. cond (nat_lt (before-map xs i) (length-same xs i)) (Some (before-map xs i)) None

pub number-kept : (day : ℕ) (on : GroupKey) (es : List (GroupKey × KeptLimit)) → number_in (map (limit_on day) es) on.group on.key ≡ option_map_or suc (position (same on) (keys_of es)) 0
number-kept day on es =
    ap (λ place. option_map_or suc place 0)
    (position-map (λ e. same on e.0) (is_of on.group on.key) (limit_on day) (λ e. sym (same_is on e.0)) es
    ∙ sym (position-map (λ e. same on e.0) (same on) (λ e. e.0) (λ e. refl) es))

-- what is stored at an index
module _ (day n : ℕ) (es : List (GroupKey × KeptLimit)) where
  -- in terms of the limit seen there
  pub kept-at : (l : GroupLimit) → slice_get (map (limit_on day) es) n ≡ Some l → (e : GroupKey × KeptLimit) × (slice_get es n ≡ Some e) × (limit_on day e ≡ l)
  kept-at l at = by (slice_get es n) refl (sym (slice_get-map (limit_on day) es n) ∙ at)
    where
      by : (o : Option (GroupKey × KeptLimit)) → slice_get es n ≡ o → option_map (limit_on day) o ≡ Some l
          → (e : GroupKey × KeptLimit) × (slice_get es n ≡ Some e) × (limit_on day e ≡ l)
      by None e h = cc
      by (Some kept) e h = (kept, e, cc)

  -- for the limits seen
  pub entry-at : (ls : List GroupLimit) → map (limit_on day) es ≡ ls → n < length ls
      → (e : GroupKey × KeptLimit) × (slice_get es n ≡ Some e) × (slice_get ls n ≡ Some (limit_on day e))
  entry-at ls view inside =
      let l = item-at ls n inside in
      let e = kept-at l.0 (ap (λ ls. slice_get ls n) view ∙ l.1) in
      (e.0, e.1, l.1 ∙ ap Some (sym e.2))

  module _ (e : GroupKey × KeptLimit) (here : slice_get es n ≡ Some e) where
    abbrev stands : StandsAt es e.0 n
    stands = record { value = e.1; here = here }

    pub value-at : slice_get (values_of es) n ≡ Some e.1
    value-at = value-standing same same-laws same-one es e.0 n stands

    pub within-at : All (λ e. IsWithin day e.1) es → IsWithin day e.1
    within-at all = subst (λ (e : GroupKey × KeptLimit). IsWithin day e.1) (get_or_from_slice_get es n e e here) (all n e (slice_get_within es n e here))

    -- lots for which there is room don't overflow
    pub fits-at : (lots : ℕ) → All (λ e. IsWithin day e.1) es → lots ≤ e.1.limit - used_on day e.1 → used_on day e.1 + lots ≤ 1000000000
    fits-at lots all room =
        let own = within-at all in
        let small = used_on-le day e.1 own in
        let most = own.limit in
        omega arith

    module _ (apart : IsDistinct same (keys_of es)) where
      -- a write there is a write for its key, and keeps within the highest limit if the value does
      pub written-within : (w : KeptLimit) → All (λ e. IsWithin day e.1) es → IsWithin day w → All (λ e. IsWithin day e.1) (set_value_at es n w)
      written-within w all own =
          subst (All (λ e. IsWithin day e.1)) (sym (set_value_at-standing same same-laws same-one es e.0 n stands apart w)) (All-written (IsWithin day) (same e.0) es w all own)

      -- a use written there is that of the limit seen there
      use-at : (change : ℕ → ℕ) (lots : ℕ) → map (limit_on day) (set_value_at es n (using day e.0 lots change e.1)) ≡ map (limit_on day) (map (step e.0 (using day e.0 lots change)) es)
      use-at change lots =
          ap (map (limit_on day))
          (set_value_at-standing same same-laws same-one es e.0 n stands apart _
          ∙ written e.0 (using day e.0 lots change) es e.1 apart (lookup-standing same same-laws same-one es e.0 n stands apart e.1 (sym value-at)))

      pub charge-at : (lots : ℕ) → map (limit_on day) (set_value_at es n (record e.1 { used = used_on day e.1 + lots; day = day }))
          ≡ limits_after_charge (map (limit_on day) es) e.0.group (e.0.key ∷ []) lots
      charge-at lots = use-at (λ used. used + lots) lots ∙ charge-kept day e.0 lots es

      pub return-at : (lots : ℕ) → map (limit_on day) (set_value_at es n (record e.1 { used = used_on day e.1 - lots; day = day }))
          ≡ limits_after_return (map (limit_on day) es) e.0.group (e.0.key ∷ []) lots
      return-at lots = use-at (λ used. used - lots) lots ∙ return-kept day e.0 lots es

-- the limit seen at an index, with its use
module _ (day n : ℕ) (es : List (GroupKey × KeptLimit)) (ls : List GroupLimit) (view : map (limit_on day) es ≡ ls) (known : n < length ls) (used : ℕ)
    (own : (l : GroupLimit) → slice_get ls n ≡ Some l → used ≡ l.used) (lots : ℕ) where
  -- with room for these lots
  pub with_room : All (λ e. IsWithin day e.1) es → ((l : GroupLimit) → slice_get ls n ≡ Some l → lots ≤ l.limit - l.used)
      → (e : GroupKey × KeptLimit) × (slice_get es n ≡ Some e) × (used ≡ used_on day e.1) × (used + lots ≤ 1000000000)
  with_room all room =
      let e = entry-at day n es ls view known in
      let is = own (limit_on day e.0) e.2 in
      (e.0, e.1, is, omega (arith, is, fits-at day n es e.0 e.1 lots all (room (limit_on day e.0) e.2)))

  -- or with these lots used
  pub with_use : ((l : GroupLimit) → slice_get ls n ≡ Some l → lots ≤ l.used) → (e : GroupKey × KeptLimit) × (slice_get es n ≡ Some e) × (used ≡ used_on day e.1) × (lots ≤ used)
  with_use fits =
      let e = entry-at day n es ls view known in
      let is = own (limit_on day e.0) e.2 in
      (e.0, e.1, is, omega (arith, is, fits (limit_on day e.0) e.2))

-- ---- lots under keys, by the numbers of the limits: one more key

module _ (change : ℕ → ℕ → ℕ) (still : (used : ℕ) → change used 0 ≡ used) (both : (used a b : ℕ) → change (change used a) b ≡ change used (a + b)) (lots : ℕ) (of : GroupLimit → ℕ)
    (group : Group) (ls : List GroupLimit) (keys : List LimitKey) (found : PathLimits) (under : AreLimitsOf ls group keys found) (once : IsDistinct key_eq keys)
    (fits : All (λ key. lots ≤ option_map_or of (limit_for ls group key) 0) keys) (i : ℕ) (inside : i < length found.numbers) (now : List GroupLimit)
    (so_far : now ≡ after change still both lots group (take i keys) ls) where
  abbrev number : ℕ
  number = slice_index found.numbers i

  abbrev then_after : Group → List LimitKey → List GroupLimit
  then_after g ks = after change still both lots g ks now

  -- the number is still that of the key's limit
  number-now : number ≡ option_map_or (number_in now group) (slice_get keys i) 0
  number-now =
      under.numbers i inside
      ∙ ap (λ (n : LimitKey → ℕ). option_map_or n (slice_get keys i) 0)
      (λ j key. option_map_or suc (sym (ap (λ ls. position (is_of group key) ls) so_far ∙ position-map (is_of group key) (is_of group key) _ (λ l. refl) ls) j) 0)

  module _ (k : LimitKey) (is : slice_get keys i ≡ Some k) where
    key_is : get_or keys i k ≡ k
    key_is = get_or_from_slice_get keys i k k is

    key_inside : i < length keys
    key_inside = slice_get_within keys i k is

    apart : has_key (take i keys) k ≡ false
    apart = ap (has_key (take i keys)) (sym key_is) ∙ not_before keys i k once key_inside

    -- its limit is unchanged, so the lots fit
    fits-now : lots ≤ option_map_or of (limit_for now group k) 0
    fits-now =
        subst (λ o. lots ≤ option_map_or of o 0)
        (sym (ap (λ ls. limit_for ls group k) so_far ∙ after-apart change still both lots group (take i keys) k apart ls))
        (subst (λ key. lots ≤ option_map_or of (limit_for ls group key) 0) key_is (fits i k key_inside))

    -- so with it all are changed up to that key
    one-more : then_after group (k ∷ []) ≡ after change still both lots group (take (i + 1) keys) ls
    one-more =
        ap (after change still both lots group (k ∷ [])) so_far
        ∙ after-push change still both lots group (take i keys) k apart ls
        ∙ ap (λ ks. after change still both lots group ks ls) (ap (λ key. take i keys ++ key ∷ []) (sym key_is) ∙ sym (take_more keys i k key_inside))

  -- if there is no limit, no lots fit, so nothing changes
  pub none-more : number ≡ 0 → now ≡ after change still both lots group (take (i + 1) keys) ls
  none-more none = by (slice_get_cases keys i).1
    where
      no_place : (k : LimitKey) (o : Option ℕ) → position (is_of group k) now ≡ o → option_map_or suc o 0 ≡ 0 → limit_for now group k ≡ None
      no_place k None e h = not_placed (is_of group k) now e
      no_place k (Some n) e h = cc

      by : ((k : LimitKey) × (i < length keys) × (slice_get keys i ≡ Some k) × (get_or keys i k ≡ k)) ⊎ ((length keys ≤ i) × (slice_get keys i ≡ None))
          → now ≡ after change still both lots group (take (i + 1) keys) ls
      by (inl k) =
          let is = k.2 in
          let number_is : number_in now group k.0 ≡ 0 = sym (number-now ∙ ap (λ o. option_map_or (number_in now group) o 0) is) ∙ none in
          let absent : limit_for now group k.0 ≡ None = no_place k.0 (position (is_of group k.0) now) refl number_is in
          let few : lots ≤ 0 = subst (λ o. lots ≤ option_map_or of o 0) absent (fits-now k.0 is) in
          let no_lots : lots ≡ 0 = omega (arith, few) in
          sym (after-nothing change still both lots group (k.0 ∷ []) (λ at on. nothing (same_group at group && has_key (k.0 ∷ []) on) no_lots) now) ∙ one-more k.0 is
        where
          nothing : (b : Bool) → lots ≡ 0 → cond b lots 0 ≡ 0
          nothing true none = none
          nothing false none = refl
      by (inr past) =
          so_far
          ∙ ap (λ ks. after change still both lots group ks ls) (take_all i keys past.0 ∙ sym (take_all (i + 1) keys (omega (arith, past.0))))

  -- if there is one, it is at its index
  placed-at : 0 < number → (k : LimitKey) × (slice_get keys i ≡ Some k) × (position (is_of group k) now ≡ Some (number - 1))
  placed-at some = by (slice_get keys i) refl
    where
      at_place : (k : LimitKey) (o : Option ℕ) → position (is_of group k) now ≡ o → number ≡ option_map_or suc o 0 → position (is_of group k) now ≡ Some (number - 1)
      at_place k None e h = absurd (omega (arith, some, h))
      at_place k (Some n) e h = e ∙ ap Some (omega (arith, h))

      by : (o : Option LimitKey) → slice_get keys i ≡ o → (k : LimitKey) × (slice_get keys i ≡ Some k) × (position (is_of group k) now ≡ Some (number - 1))
      by None e = absurd (omega (arith, some, number-now ∙ ap (λ o. option_map_or (number_in now group) o 0) e))
      by (Some k) e = (k, e, at_place k (position (is_of group k) now) refl (number-now ∙ ap (λ o. option_map_or (number_in now group) o 0) e))

  module _ (some : 0 < number) where
    pub known-there : number - 1 < length now
    known-there = let k = placed-at some in (placed (is_of group k.0) now (number - 1) k.2).0

    found-there : slice_get now (number - 1) ≡ limit_for now group (placed-at some).0
    found-there = let k = placed-at some in (placed (is_of group k.0) now (number - 1) k.2).1

    pub fits-there : (l : GroupLimit) → slice_get now (number - 1) ≡ Some l → lots ≤ of l
    fits-there l here =
        let k = placed-at some in
        subst (λ o. lots ≤ option_map_or of o 0) (sym found-there ∙ here) (fits-now k.0 k.1)

    pub one-there : (new : List GroupLimit) → ((l : GroupLimit) → slice_get now (number - 1) ≡ Some l → new ≡ then_after l.group (l.key ∷ []))
        → new ≡ after change still both lots group (take (i + 1) keys) ls
    one-there new changed =
        let k = placed-at some in
        let l = item-at now (number - 1) known-there in
        let own = found_place now group k.0 l.0 (sym found-there ∙ l.1) in
        changed l.0 l.1 ∙ (λ j. then_after (own.0 j) (own.1 j ∷ [])) ∙ one-more k.0 k.1

-- ---- charging and giving back

module _ (ls : List GroupLimit) (group : Group) (keys : List LimitKey) (lots : ℕ) (found : PathLimits) (i : ℕ) (inside : i < length found.numbers) (now : List GroupLimit) where
  abbrev number_ : ℕ
  number_ = slice_index found.numbers i

  module _ (may : MayCharge ls group keys lots found) (so_far : now ≡ limits_after_charge ls group (take i keys) lots) where
    room : (o : Option GroupLimit) → option_map_or (λ (l : GroupLimit). l.limit) o 0 - option_map_or (λ (l : GroupLimit). l.used) o 0 ≡ option_map_or (λ (l : GroupLimit). l.limit - l.used) o 0
    room None = refl
    room (Some l) = refl

    rooms : All (λ key. lots ≤ option_map_or (λ (l : GroupLimit). l.limit - l.used) (limit_for ls group key) 0) keys
    rooms j d within = subst (λ n. lots ≤ n) (room (limit_for ls group (get_or keys j d))) (may.room j d within)

    pub charge-known : 0 < number_ → number_ - 1 < length now
    charge-known some = known-there (λ u a. u + a) (λ u. omega arith) (λ u a b. omega arith) lots (λ l. l.limit - l.used) group ls keys found may.under may.once rooms i inside now so_far some

    pub charge-fits : 0 < number_ → (l : GroupLimit) → slice_get now (number_ - 1) ≡ Some l → lots ≤ l.limit - l.used
    charge-fits some = fits-there (λ u a. u + a) (λ u. omega arith) (λ u a b. omega arith) lots (λ l. l.limit - l.used) group ls keys found may.under may.once rooms i inside now so_far some

    pub charge-one : 0 < number_ → (new : List GroupLimit) → ((l : GroupLimit) → slice_get now (number_ - 1) ≡ Some l → new ≡ limits_after_charge now l.group (l.key ∷ []) lots)
        → new ≡ limits_after_charge ls group (take (i + 1) keys) lots
    charge-one some = one-there (λ u a. u + a) (λ u. omega arith) (λ u a b. omega arith) lots (λ l. l.limit - l.used) group ls keys found may.under may.once rooms i inside now so_far some

    pub charge-none : number_ ≡ 0 → now ≡ limits_after_charge ls group (take (i + 1) keys) lots
    charge-none none = none-more (λ u a. u + a) (λ u. omega arith) (λ u a b. omega arith) lots (λ l. l.limit - l.used) group ls keys found may.under may.once rooms i inside now so_far none

  module _ (may : MayReturn ls group keys lots found) (so_far : now ≡ limits_after_return ls group (take i keys) lots) where
    pub return-known : 0 < number_ → number_ - 1 < length now
    return-known some = known-there (λ u a. u - a) (λ u. omega arith) (λ u a b. omega arith) lots (λ l. l.used) group ls keys found may.under may.once may.used i inside now so_far some

    pub return-fits : 0 < number_ → (l : GroupLimit) → slice_get now (number_ - 1) ≡ Some l → lots ≤ l.used
    return-fits some = fits-there (λ u a. u - a) (λ u. omega arith) (λ u a b. omega arith) lots (λ l. l.used) group ls keys found may.under may.once may.used i inside now so_far some

    pub return-one : 0 < number_ → (new : List GroupLimit) → ((l : GroupLimit) → slice_get now (number_ - 1) ≡ Some l → new ≡ limits_after_return now l.group (l.key ∷ []) lots)
        → new ≡ limits_after_return ls group (take (i + 1) keys) lots
    return-one some = one-there (λ u a. u - a) (λ u. omega arith) (λ u a b. omega arith) lots (λ l. l.used) group ls keys found may.under may.once may.used i inside now so_far some

    pub return-none : number_ ≡ 0 → now ≡ limits_after_return ls group (take (i + 1) keys) lots
    return-none none = none-more (λ u a. u - a) (λ u. omega arith) (λ u a b. omega arith) lots (λ l. l.used) group ls keys found may.under may.once may.used i inside now so_far none
