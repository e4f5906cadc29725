-- There is room under each key for what a sweep of a group's view takes.
use Rattle.gu_rules.proofs.Words.{ℕ, ◌==◌, if◌then◌else◌, ◌≡◌, zero, ◌<◌, Bool, true, false, List, [], ◌∷◌, sum_by, refl, sym, arith, inl, inr, ◌≤◌, ◌&&◌, Some, ap, ◌∙◌, subst, map, cases_Bool, Decides-eqb, recursion_from_All, sum_by-cons, AllByRecursion, list_any, option_map_or, key_eq-same, Later, along, any_none, sum_by-agree, sum_by-mono, sum_by-swap, has_key, key_eq, same_group, lots_of, Entry, Group, LimitKey, Take, Tables, lots_under as lots_charged, Row, row_at, keys_of, ViewOffer, path_after, room_of, group_view, offers_shown}
use Rattle.gu_view.proofs.RoomLemmas.{has_key-keys_of}
use Rattle.gu_view.specs.Takes.{IsAdmissible, lots_under}
use Rattle.gu_view.specs.declared.view.Room.{Room}
use Rattle.gu_rules.proofs.Parts.{lots_of-sum}
use Rattle.gu_rules.proofs.SweptOffers.{TakesLeft}

-- the lots that a take from an offer uses under a key
abbrev pub used_of : LimitKey → Take → ViewOffer → ℕ
used_of key t o = if t.offer == o.number then (if has_key o.path key then t.lots else 0) else 0

-- the lots taken from an offer to which the key applies are those of all takes from it
used-offer : (takes : List Take) (key : LimitKey) (o : ViewOffer) → Later (λ (a b : Take). a.offer < b.offer) takes
    → sum_by (λ (t : Take). used_of key t o) takes ≡ (if has_key o.path key then lots_of takes o.number else 0)
used-offer takes key o later =
    elim (cases_Bool (has_key o.path key)) [
      | inl hit ↦ rw hit (sym (lots_of-sum takes o.number later))
      | inr miss ↦ rw miss (nothing takes)
    ]
  where
    nothing : (takes : List Take) → sum_by (λ (t : Take). if t.offer == o.number then zero else zero) takes ≡ 0
    nothing [] = refl
    nothing (t ∷ takes) =
        let none : (if t.offer == o.number then zero else zero) ≡ 0 = either (t.offer == o.number) in
        omega (arith, sum_by-cons (λ (t : Take). if t.offer == o.number then zero else zero) t takes, none, nothing takes)
      where
        either : (b : Bool) → (if b then zero else zero) ≡ zero
        either true = refl
        either false = refl

module _ (reference : Tables) (rows : List Row) (group : Group) (offers : List ViewOffer) (at : Group) (key : LimitKey) where
  -- the lots that a take uses, from its offer's row
  abbrev pub used_by : Take → ℕ
  used_by t = option_map_or (λ (r : Row). lots_charged r.offer.group (path_after reference r.offer) t.lots at key) (row_at rows t.offer) 0

  -- in another group it uses none
  elsewhere : same_group at group ≡ false → (t : Take) → TakesLeft reference rows group offers t → used_by t ≡ 0
  elsewhere other t takes =
      let s = takes.stands in
      let here : row_at rows t.offer ≡ Some s.row = ap (row_at rows) (sym takes.number) ∙ s.at in
      let apart_ : same_group at s.row.offer.group ≡ false = ap (same_group at) s.own ∙ other in
      rw (here, apart_) refl

  -- in its own group it uses its lots if its offer's path has the key
  here-used : (t : Take) → TakesLeft reference rows group offers t → used_by t ≤ sum_by (used_of key t) offers
  here-used t takes =
      let s = takes.stands in
      let row : row_at rows t.offer ≡ Some s.row = ap (row_at rows) (sym takes.number) ∙ s.at in
      let mine : used_by t ≡ lots_charged s.row.offer.group (path_after reference s.row.offer) t.lots at key = rw row refl in
      let one : used_of key t takes.o ≡ (if has_key takes.o.path key then t.lots else 0) = rw ((Decides-eqb t.offer takes.o.number).1 (sym takes.number)) refl in
      let path : (if has_key takes.o.path key then t.lots else 0) ≡ (if has_key (path_after reference s.row.offer) key then t.lots else 0) = ap (λ (p : List LimitKey). if has_key p key then t.lots else 0) s.path in
      omega (arith, mine, one, path, takes.among (used_of key t), less (same_group at s.row.offer.group) (has_key (path_after reference s.row.offer) key) t.lots)
    where
      less : (b c : Bool) (n : ℕ) → (if b && c then n else 0) ≤ (if c then n else 0)
      less true c n = omega arith
      less false true n = omega arith
      less false false n = omega arith

  -- all takes use no more than the view counts under the key
  pub all-used : (takes : List Take) → Later (λ (a b : Take). a.offer < b.offer) takes → AllByRecursion (TakesLeft reference rows group offers) takes
      → sum_by used_by takes ≤ lots_under offers key (lots_of takes)
  all-used takes later left =
      let by_take = sum_by-mono used_by (λ (t : Take). sum_by (used_of key t) offers) takes (along (TakesLeft reference rows group offers) (λ (t : Take). used_by t ≤ sum_by (used_of key t) offers) takes here-used left) in
      let swapped = sum_by-swap (λ (t : Take) (o : ViewOffer). used_of key t o) takes offers in
      let by_offer = sum_by-agree (λ (o : ViewOffer). sum_by (λ (t : Take). used_of key t o) takes) (λ (o : ViewOffer). if has_key o.path key then lots_of takes o.number else 0) offers (λ o. used-offer takes key o later) in
      omega (arith, by_take, swapped, by_offer)

  pub none-used : (takes : List Take) → same_group at group ≡ false → AllByRecursion (TakesLeft reference rows group offers) takes → sum_by used_by takes ≡ 0
  none-used [] other left = refl
  none-used (t ∷ takes) other left = omega (arith, sum_by-cons used_by t takes, elsewhere other t left.0, none-used takes other left.1)

-- a property of each key holds of one of them
keyed : (P : LimitKey → Type 0) (keys : List LimitKey) (key : LimitKey) → has_key keys key ≡ true → AllByRecursion P keys → P key
keyed P [] key has all = cc
keyed P (k ∷ keys) key has all =
    elim (cases_Bool (key_eq k key)) [
      | inl hit ↦ subst P (key_eq-same k key hit) all.0
      | inr miss ↦ keyed P keys key (sym (rw miss refl) ∙ has) all.1
    ]

-- a view counts at most its room under a key
pub under-room : (reference : Tables) (history : List Entry) (group : Group) (key : LimitKey) (lots : ℕ → ℕ) → IsAdmissible (group_view reference history group) lots
    → lots_under (offers_shown reference history group) key lots ≤ room_of reference history group key
under-room reference history group key lots within =
    let offers = offers_shown reference history group in
    let Fits : LimitKey → Type 0 = λ k. lots_under offers k lots ≤ room_of reference history group k in
    let all = mapped (keys_of offers) (recursion_from_All (λ (r : Room). lots_under offers r.key lots ≤ r.lots) (map (λ k. record { key = k; lots = room_of reference history group k }) (keys_of offers)) within.rooms) in
    elim (cases_Bool (has_key (keys_of offers) key)) [
      | inl hit ↦ keyed Fits (keys_of offers) key hit all
      | inr miss ↦
          let none : list_any (λ (o : ViewOffer). has_key o.path key) offers ≡ false = sym (has_key-keys_of offers key) ∙ miss in
          omega (arith, nothing offers (any_none (λ (o : ViewOffer). has_key o.path key) offers none))
    ]
  where
    mapped : (keys : List LimitKey) → AllByRecursion (λ (r : Room). lots_under (offers_shown reference history group) r.key lots ≤ r.lots) (map (λ k. record { key = k; lots = room_of reference history group k }) keys)
        → AllByRecursion (λ (k : LimitKey). lots_under (offers_shown reference history group) k lots ≤ room_of reference history group k) keys
    mapped [] h = tt
    mapped (k ∷ keys) h = (h.0, mapped keys h.1)

    nothing : (offers : List ViewOffer) → AllByRecursion (λ (o : ViewOffer). has_key o.path key ≡ false) offers → lots_under offers key lots ≡ 0
    nothing [] h = refl
    nothing (o ∷ offers) h =
        let none : (if has_key o.path key then lots o.number else 0) ≡ 0 = rw h.0 refl in
        omega (arith, sum_by-cons (λ (o : ViewOffer). if has_key o.path key then lots o.number else 0) o offers, none, nothing offers h.1)
