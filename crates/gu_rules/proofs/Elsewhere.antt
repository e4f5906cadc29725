-- An entry that touches no offer and no limit of a group leaves its view unchanged.
use Rattle.gu_rules.proofs.Words.{◌≡◌, ℕ, zero, suc, ◌+◌, ◌-◌, ◌==◌, ◌&&◌, ◌||◌, Bool, true, false, List, [], ◌∷◌, ◌++◌, length, map, Option, Some, None, unwrap_or, refl, sym, ap, ◌∙◌, arith, append_assoc, append-nil, if◌then◌else◌, subst, inl, inr, IsTrue, slice_get, AllByRecursion, cons_option, filter_map, find, option_map, option_map_or, option_to_list, cases_Bool, Decides-eqb, recursion_from_All, sum_by-cons, sum_by_push, same_group-own, same_group-true, same_group, lots_of, AgreementId, OpenDay, SetLimit, GiveUp, Claim, Refuse, Reverse, Entry, Asked, Swept, SweepEntry, FirmId, Group, Id, LimitKey, Line, Offer, Opened, LimitSet, Offered, Claimed, Refused, Reversed, Accepted, Take, agreement_between, Tables, Row, is_open, is_open_in, left_of, numbers_from, open_offer_at, open_offers, row_at, keys_of, MayFollow, is_under, limit_of, limit_set_by, path_after, room_of, use_in, use_of, closes, given_back_by, is_shut, lines_by, moved_of, offers_of, standing, standing_from, standing_of, taken_by, entries_today, opened_day, MaySweep, is_of_group, touches, touching, touching_after, group_view, offers_shown, shown}
use Rattle.gu_offers.specs.declared.open_offer.OpenOffer.{OpenOffer}
use Rattle.gu_view.specs.Check.{has_offer}
use Rattle.gu_rules.proofs.Growing.{last-kept}
use Rattle.gu_rules.proofs.StandingLemmas.{either-false, is_shut-push, offers_of-push}
use Rattle.gu_rules.proofs.Today.{entries_today-kept}

-- an entry takes nothing from the offer with a number, gives nothing back to it and doesn't close it
pub record IsSpared (entry : Entry) (n : ℕ) : Type 0 where
  pub takes : taken_by n entry ≡ 0
  pub gives : given_back_by n entry ≡ 0
  pub closed : closes n entry ≡ false

-- such an offer is unchanged
standing-spared : (history : List Entry) (entry : Entry) (n : ℕ) (offer : Offer) → opened_day entry ≡ None → IsSpared entry n
    → standing (history ++ entry ∷ []) n offer ≡ standing history n offer
standing-spared history entry n offer none spared =
    let moved : moved_of (history ++ entry ∷ []) n ≡ moved_of history n =
    omega (arith, sum_by_push (taken_by n) history entry, sum_by_push (given_back_by n) history entry, spared.takes, spared.gives) in
    let today : moved_of (entries_today (history ++ entry ∷ [])) n ≡ moved_of (entries_today history) n =
    ap (λ (es : List Entry). moved_of es n) (entries_today-kept history entry none)
    ∙ omega (arith, sum_by_push (taken_by n) (entries_today history) entry, sum_by_push (given_back_by n) (entries_today history) entry, spared.takes, spared.gives) in
    let shut : is_shut (history ++ entry ∷ []) n ≡ is_shut history n = is_shut-push history entry n ∙ ap (λ b. is_shut history n || b) spared.closed ∙ either-false (is_shut history n) in
    λ i. record { offer = offer; moved = moved i; today = today i; is_shut = shut i }

module _ (group : Group) where
  -- rows in which those of the group are the same, followed by more of other groups
  abbrev pub Alike : List Row → List Row → Type 0
  Alike [] [] = Unit {0}
  Alike [] (more ∷ others) = (same_group more.offer.group group ≡ false) × Alike [] others
  Alike (old ∷ rows) [] = ⊥
  Alike (old ∷ rows) (new ∷ others) = ((same_group old.offer.group group ≡ true → new ≡ old) × (new.offer ≡ old.offer)) × Alike rows others

  -- the offers of the group among these, the first of which has this number, are spared
  abbrev AreSpared : Entry → ℕ → List Offer → Type 0
  AreSpared entry m [] = Unit {0}
  AreSpared entry m (offer ∷ offers) = (same_group offer.group group ≡ true → IsSpared entry m) × AreSpared entry (m + 1) offers

  -- the offers as they are now, and those of one more entry after them
  alike-standing : (history : List Entry) (entry : Entry) (m : ℕ) (offers made : List Offer) → opened_day entry ≡ None → AreSpared entry m offers
      → AllByRecursion (λ (o : Offer). same_group o.group group ≡ false) made → Alike (standing_from history m offers) (standing_from (history ++ entry ∷ []) m (offers ++ made))
  alike-standing history entry m [] [] none spared others = tt
  alike-standing history entry m [] (offer ∷ made) none spared others = (others.0, alike-standing history entry (m + 1) [] made none tt others.1)
  alike-standing history entry m (offer ∷ offers) made none spared others =
      ((λ own. standing-spared history entry m offer none (spared.0 own), refl), alike-standing history entry (m + 1) offers made none spared.1 others)

  -- ---- the open offers

  -- a product group's open offers among these rows, the first of which has this number
  abbrev open_from : ℕ → List Row → List OpenOffer
  open_from m [] = []
  open_from m (row ∷ rows) = if is_open_in group row then record { number = m; offer = row.offer; left = left_of row } ∷ open_from (m + 1) rows else open_from (m + 1) rows

  open_from-is : (all : List Row) (m : ℕ) (rows : List Row) → ((place : ℕ) (row : Row) → slice_get rows place ≡ Some row → row_at all (m + place) ≡ Some row)
      → filter_map (open_offer_at all) (numbers_from m rows group) ≡ open_from m rows
  open_from-is all m [] at = refl
  open_from-is all m (row ∷ rows) at =
      by (open_from-is all (m + 1) rows (λ place r is. let next : m + 1 + place ≡ m + suc place = omega arith in ap (row_at all) next ∙ at (suc place) r is))
      (is_open_in group row)
    where
      here : open_offer_at all m ≡ Some (record { number = m; offer = row.offer; left = left_of row })
      here =
          let same : m + zero ≡ m = omega arith in
          ap (λ (found : Option Row). option_map (λ (r : Row). record { number = m; offer = r.offer; left = left_of r }) found) (ap (row_at all) (sym same) ∙ at zero row refl)

      by : filter_map (open_offer_at all) (numbers_from (m + 1) rows group) ≡ open_from (m + 1) rows → (b : Bool)
          → filter_map (open_offer_at all) (if b then m ∷ numbers_from (m + 1) rows group else numbers_from (m + 1) rows group)
          ≡ (if b then record { number = m; offer = row.offer; left = left_of row } ∷ open_from (m + 1) rows else open_from (m + 1) rows)
      by more true = rw (here, more) refl
      by more false = more

  open_offers-is : (rows : List Row) → open_offers rows group ≡ open_from 1 rows
  open_offers-is rows = open_from-is rows 1 rows (λ place row is. let next : 1 + place ≡ suc place = omega arith in ap (row_at rows) next ∙ is)

  -- rows of other groups show no offer
  closed_to : (row : Row) → same_group row.offer.group group ≡ false → is_open_in group row ≡ false
  closed_to row other = ap (λ b. b && is_open row) other

  open_from-alike : (m : ℕ) (rows others : List Row) → Alike rows others → open_from m others ≡ open_from m rows
  open_from-alike m [] [] alike = refl
  open_from-alike m [] (more ∷ others) alike = rw (closed_to more alike.0) (open_from-alike (m + 1) [] others alike.1)
  open_from-alike m (old ∷ rows) [] alike = absurd alike
  open_from-alike m (old ∷ rows) (new ∷ others) alike =
      elim (cases_Bool (same_group old.offer.group group)) [
        | inl own ↦
            let same = alike.0.0 own in
            let rest = open_from-alike (m + 1) rows others alike.1 in
            λ i. if is_open_in group (same i) then record { number = m; offer = (same i).offer; left = left_of (same i) } ∷ rest i else rest i
        | inr other ↦
            let new_other : same_group new.offer.group group ≡ false = ap (λ (o : Offer). same_group o.group group) alike.0.1 ∙ other in
            rw (closed_to old other, closed_to new new_other) (open_from-alike (m + 1) rows others alike.1)
      ]

  open_offers-alike : (rows others : List Row) → Alike rows others → open_offers others group ≡ open_offers rows group
  open_offers-alike rows others alike = open_offers-is others ∙ open_from-alike 1 rows others alike ∙ sym (open_offers-is rows)

  -- ---- the uses

  turned : (other : Group) → same_group other group ≡ false → same_group group other ≡ false
  turned other apart =
      elim (cases_Bool (same_group group other)) [
        | inl hit ↦
            let one = same_group-true group other hit in
            let own : same_group other group ≡ true = ap (same_group other) one ∙ same_group-own other in
            cc
        | inr miss ↦ miss
      ]

  module _ (reference : Tables) (key : LimitKey) where
    abbrev used_by : Row → ℕ
    used_by row = if is_under reference group key row then row.today else 0

    used_by-other : (row : Row) → same_group row.offer.group group ≡ false → used_by row ≡ 0
    used_by-other row other = rw (turned row.offer.group other) refl

    use_in-alike : (rows others : List Row) → Alike rows others → use_in reference others group key ≡ use_in reference rows group key
    use_in-alike [] [] alike = refl
    use_in-alike [] (more ∷ others) alike = omega (arith, sum_by-cons used_by more others, used_by-other more alike.0, use_in-alike [] others alike.1)
    use_in-alike (old ∷ rows) [] alike = absurd alike
    use_in-alike (old ∷ rows) (new ∷ others) alike =
        omega (arith, sum_by-cons used_by new others, sum_by-cons used_by old rows, used, use_in-alike rows others alike.1)
      where
        used : used_by new ≡ used_by old
        used =
            elim (cases_Bool (same_group old.offer.group group)) [
              | inl own ↦ ap used_by (alike.0.0 own)
              | inr other ↦
                  let new_other : same_group new.offer.group group ≡ false = ap (λ (o : Offer). same_group o.group group) alike.0.1 ∙ other in
                  used_by-other new new_other ∙ sym (used_by-other old other)
            ]

-- ---- versions

-- the entries that touch a group after one more entry
touching_after-push : (group : Group) (before later : List Entry) (entry : Entry)
    → touching_after before group (later ++ entry ∷ []) ≡ touching_after before group later ++ option_to_list (if touches (before ++ later) group entry then Some (length (before ++ later) + 1) else None)
touching_after-push group before [] entry =
    rw (append-nil before) (append-nil (option_to_list (if touches before group entry then Some (length before + 1) else None)))
touching_after-push group before (first ∷ later) entry =
    let touch : List Entry → List ℕ = λ all. option_to_list (if touches all group entry then Some (length all + 1) else None) in
    let own = option_to_list (if touches before group first then Some (length before + 1) else None) in
    ap (λ (ns : List ℕ). own ++ ns) (touching_after-push group (before ++ first ∷ []) later entry)
    ∙ ap (λ (all : List Entry). own ++ (touching_after (before ++ first ∷ []) group later ++ touch all)) (append_assoc before (first ∷ []) later)
    ∙ sym (append_assoc own (touching_after (before ++ first ∷ []) group later) (touch (before ++ first ∷ later)))

touching-untouched : (history : List Entry) (entry : Entry) (group : Group) → touches history group entry ≡ false → touching (history ++ entry ∷ []) group ≡ touching history group
touching-untouched history entry group untouched =
    touching_after-push group [] history entry
    ∙ ap (λ b. touching history group ++ option_to_list (if b then Some (length history + 1) else None)) untouched
    ∙ append-nil (touching history group)

-- ---- the view

-- an entry opens no day, makes no offer in a group, spares the existing ones, sets no limit there, and doesn't touch it
record Leaves (history : List Entry) (group : Group) (entry : Entry) : Type 0 where
  opens : opened_day entry ≡ None
  makes : AllByRecursion (λ (o : Offer). same_group o.group group ≡ false) (lines_by entry)
  spares : (place : ℕ) (o : Offer) → slice_get (offers_of history) place ≡ Some o → same_group o.group group ≡ true → IsSpared entry (suc place)
  sets : (key : LimitKey) → limit_set_by group key entry ≡ None
  untouched : touches history group entry ≡ false

spared-each : (group : Group) (entry : Entry) (m : ℕ) (offers : List Offer)
    → ((place : ℕ) (o : Offer) → slice_get offers place ≡ Some o → same_group o.group group ≡ true → IsSpared entry (m + place)) → AreSpared group entry m offers
spared-each group entry m [] each = tt
spared-each group entry m (offer ∷ offers) each = (
  λ own. let here : m + zero ≡ m = omega arith in subst (IsSpared entry) here (each zero offer refl own),
  spared-each group entry (m + 1) offers (λ place o at own. let next : m + suc place ≡ m + 1 + place = omega arith in subst (IsSpared entry) next (each (suc place) o at own)),
)

-- its view is unchanged
view-left : (reference : Tables) (history : List Entry) (entry : Entry) (group : Group) → Leaves history group entry
    → group_view reference (history ++ entry ∷ []) group ≡ group_view reference history group
view-left reference history entry group leaves =
    λ i. record {
      group = group;
      version = length (touching-untouched history entry group leaves.untouched i);
      offers = offers i;
      rooms = map (λ key. record { key = key; lots = room key i }) (keys_of (offers i));
    }
  where
    spared : AreSpared group entry 1 (offers_of history)
    spared =
        spared-each group entry 1 (offers_of history)
        (λ place o at own. let number : suc place ≡ 1 + place = omega arith in subst (IsSpared entry) number (leaves.spares place o at own))

    alike : Alike group (standing_of history) (standing_of (history ++ entry ∷ []))
    alike =
        subst (λ (made : List Offer). Alike group (standing_of history) (standing_from (history ++ entry ∷ []) 1 made)) (sym (offers_of-push history entry))
        (alike-standing group history entry 1 (offers_of history) (lines_by entry) leaves.opens spared leaves.makes)

    offers : offers_shown reference (history ++ entry ∷ []) group ≡ offers_shown reference history group
    offers = ap (filter_map (shown reference)) (open_offers-alike group (standing_of history) (standing_of (history ++ entry ∷ [])) alike)

    limit : (key : LimitKey) → limit_of (history ++ entry ∷ []) group key ≡ limit_of history group key
    limit key = ap (λ (o : Option ℕ). unwrap_or o 0) (last-kept (limit_set_by group key) history entry (leaves.sets key))

    room : (key : LimitKey) → room_of reference (history ++ entry ∷ []) group key ≡ room_of reference history group key
    room key =
        let used : use_of reference (history ++ entry ∷ []) group key ≡ use_of reference history group key =
        use_in-alike group reference key (standing_of history) (standing_of (history ++ entry ∷ [])) alike in
        λ i. limit key i - used i

-- ---- the entries

-- the offer with a number differs from one of a group, if it isn't in the group
another : (history : List Entry) (group : Group) (n place : ℕ) (o : Offer) → slice_get (offers_of history) place ≡ Some o → same_group o.group group ≡ true → is_of_group history group n ≡ false
    → (n == suc place) ≡ false
another history group n place o at own other =
    elim (cases_Bool (n == suc place)) [
      | inl hit ↦
          let one : n ≡ suc place = (Decides-eqb n (suc place)).0 hit in
          let here : is_of_group history group n ≡ true =
          ap (is_of_group history group) one ∙ ap (λ (found : Option Offer). option_map_or (λ (it : Offer). same_group it.group group) found false) at ∙ own in
          cc
      | inr miss ↦ miss
    ]

-- an offer shown by a view of another group is in that group
stands_in : (group : Group) (m : ℕ) (rows : List Row) (reference : Tables) (n : ℕ) → has_offer (filter_map (shown reference) (open_from group m rows)) n ≡ true
    → (place : ℕ) × (row : Row) × (n ≡ m + place) × (slice_get rows place ≡ Some row) × (same_group row.offer.group group ≡ true)
stands_in group m [] reference n has = cc
stands_in group m (row ∷ rows) reference n has = by (stands_in group (m + 1) rows reference n) (same_group row.offer.group group) refl (is_open row) has
  where
    Found : ℕ → List Row → Type 0
    Found from all = (place : ℕ) × (r : Row) × (n ≡ from + place) × (slice_get all place ≡ Some r) × (same_group r.offer.group group ≡ true)

    later : Found (m + 1) rows → (place : ℕ) × (r : Row) × (n ≡ m + place) × (slice_get (row ∷ rows) place ≡ Some r) × (same_group r.offer.group group ≡ true)
    later found = (suc found.0, found.1, found.2 ∙ omega arith, found.3, found.4)

    by : (has_offer (filter_map (shown reference) (open_from group (m + 1) rows)) n ≡ true → Found (m + 1) rows) → (own : Bool) → same_group row.offer.group group ≡ own → (opened : Bool)
        → has_offer (filter_map (shown reference) (if own && opened then record { number = m; offer = row.offer; left = left_of row } ∷ open_from group (m + 1) rows else open_from group (m + 1) rows)) n ≡ true
        → (place : ℕ) × (r : Row) × (n ≡ m + place) × (slice_get (row ∷ rows) place ≡ Some r) × (same_group r.offer.group group ≡ true)
    by more false is opened has = later (more has)
    by more true is false has = later (more has)
    by more true is true has = of (agreement_between reference row.offer.firm row.offer.account) has
      where
        of : (found : Option AgreementId)
            → has_offer (cons_option (option_map (λ agreement. record { number = m; lots = left_of row; agreement = agreement; path = path_after reference row.offer }) found) (filter_map (shown reference) (open_from group (m + 1) rows))) n ≡ true
            → (place : ℕ) × (r : Row) × (n ≡ m + place) × (slice_get (row ∷ rows) place ≡ Some r) × (same_group r.offer.group group ≡ true)
        of None has = later (more has)
        of (Some agreement) has = first (m == n) refl has
          where
            first : (hit : Bool) → (m == n) ≡ hit → (hit || has_offer (filter_map (shown reference) (open_from group (m + 1) rows)) n) ≡ true
                → (place : ℕ) × (r : Row) × (n ≡ m + place) × (slice_get (row ∷ rows) place ≡ Some r) × (same_group r.offer.group group ≡ true)
            first true e h = let one : m ≡ n = (Decides-eqb m n).0 e in (zero, row, omega (arith, one), refl, is)
            first false e h = later (more h)

-- an offer as it is now was made
made-at : (history : List Entry) (m : ℕ) (offers : List Offer) (place : ℕ) (row : Row) → slice_get (standing_from history m offers) place ≡ Some row → slice_get offers place ≡ Some row.offer
made-at history m [] place row at = cc
made-at history m (offer ∷ offers) zero row at = let same : standing history m offer ≡ row = cc in ap (λ (r : Row). Some r.offer) same
made-at history m (offer ∷ offers) (suc place) row at = made-at history (m + 1) offers place row at

-- takes that don't name this offer take nothing from it
unnamed : (takes : List Take) (n : ℕ) → AllByRecursion (λ (t : Take). (t.offer == n) ≡ false) takes → lots_of takes n ≡ 0
unnamed takes n none = ap (λ (found : Option Take). unwrap_or (option_map (λ (t : Take). t.lots) found) 0) (go takes none)
  where
    go : (takes : List Take) → AllByRecursion (λ (t : Take). (t.offer == n) ≡ false) takes → find (λ (t : Take). t.offer == n) takes ≡ None
    go [] none = refl
    go (t ∷ takes) none = rw none.0 (go takes none.1)

truth : (b : Bool) → IsTrue b → b ≡ true
truth true h = refl
truth false h = cc

-- a sweep of another group spares the offers of this one
sweep-spares : (reference : Tables) (history : List Entry) (group : Group) (sweep : SweepEntry) → MaySweep reference history sweep → same_group sweep.group group ≡ false
    → (place : ℕ) (o : Offer) → slice_get (offers_of history) place ≡ Some o → same_group o.group group ≡ true → IsSpared (Swept sweep) (suc place)
sweep-spares reference history group sweep may other place o at own = record {
  takes = unnamed sweep.takes (suc place) (each sweep.takes (recursion_from_All (λ (t : Take). IsTrue (has_offer (offers_shown reference history sweep.group) t.offer)) sweep.takes may.sweeps.right.takes_known));
  gives = refl;
  closed = refl;
}
  where
    stranger : (n : ℕ) → IsTrue (has_offer (offers_shown reference history sweep.group) n) → (n == suc place) ≡ false
    stranger n has =
        elim (cases_Bool (n == suc place)) [
          | inl hit ↦
              let one : n ≡ suc place = (Decides-eqb n (suc place)).0 hit in
              let seen : has_offer (filter_map (shown reference) (open_from sweep.group 1 (standing_of history))) n ≡ true =
              ap (λ (os : List OpenOffer). has_offer (filter_map (shown reference) os) n) (sym (open_offers-is sweep.group (standing_of history))) ∙ truth (has_offer (offers_shown reference history sweep.group) n) has in
              let found = stands_in sweep.group 1 (standing_of history) reference n seen in
              let here : found.0 ≡ place = omega (arith, found.2, one) in
              let made : Some found.1.offer ≡ Some o = sym (made-at history 1 (offers_of history) found.0 found.1 found.3) ∙ ap (slice_get (offers_of history)) here ∙ at in
              let same : found.1.offer ≡ o = cc in
              let theirs : same_group o.group sweep.group ≡ true = ap (λ (it : Offer). same_group it.group sweep.group) (sym same) ∙ found.4 in
              let groups : sweep.group ≡ group = sym (same_group-true o.group sweep.group theirs) ∙ same_group-true o.group group own in
              let hit : same_group sweep.group group ≡ true = ap (λ (g : Group). same_group g group) groups ∙ same_group-own group in
              cc
          | inr miss ↦ miss
        ]

    each : (takes : List Take) → AllByRecursion (λ (t : Take). IsTrue (has_offer (offers_shown reference history sweep.group) t.offer)) takes → AllByRecursion (λ (t : Take). (t.offer == suc place) ≡ false) takes
    each [] known = tt
    each (t ∷ takes) known = (stranger t.offer known.0, each takes known.1)

-- lines make offers in the give-up's group
lines-other : (firm : FirmId) (report : Id) (at group : Group) (lines : List Line) → same_group at group ≡ false
    → AllByRecursion (λ (o : Offer). same_group o.group group ≡ false) (map (λ (l : Line). record { firm = firm; report = report; group = at; account = l.account; lots = l.lots }) lines)
lines-other firm report at group [] other = tt
lines-other firm report at group (line ∷ lines) other = (other, lines-other firm report at group lines other)

leaves : (reference : Tables) (history : List Entry) (group : Group) (entry : Entry) → MayFollow reference history entry → touches history group entry ≡ false → Leaves history group entry
leaves reference history group (Asked (OpenDay it) (Accepted Opened)) may untouched = cc
leaves reference history group (Asked (SetLimit it) (Accepted LimitSet)) may untouched = record {
  opens = refl;
  makes = tt;
  spares = λ place o there own. record { takes = refl; gives = refl; closed = refl };
  sets = λ on. rw untouched refl;
  untouched = untouched;
}
leaves reference history group (Asked (GiveUp it) (Accepted (Offered at first count))) may untouched = record {
  opens = refl;
  makes = lines-other it.firm it.report at group it.lines untouched;
  spares = λ place o there own. record { takes = refl; gives = refl; closed = refl };
  sets = λ on. refl;
  untouched = untouched;
}
leaves reference history group (Asked (Claim it) (Accepted (Claimed lots))) may untouched = record {
  opens = refl;
  makes = tt;
  spares = λ place o there own. record { takes = rw (another history group it.offer place o there own untouched) refl; gives = refl; closed = refl };
  sets = λ on. refl;
  untouched = untouched;
}
leaves reference history group (Asked (Refuse it) (Accepted (Refused lots))) may untouched = record {
  opens = refl;
  makes = tt;
  spares = λ place o there own. record { takes = refl; gives = refl; closed = another history group it.offer place o there own untouched };
  sets = λ on. refl;
  untouched = untouched;
}
leaves reference history group (Asked (Reverse it) (Accepted (Reversed lots))) may untouched = record {
  opens = refl;
  makes = tt;
  spares = λ place o there own. record {
    takes = refl;
    gives = rw (another history group it.offer place o there own untouched) refl;
    closed = another history group it.offer place o there own untouched;
  };
  sets = λ on. refl;
  untouched = untouched;
}
leaves reference history group (Swept sweep) may untouched = record {
  opens = refl;
  makes = tt;
  spares = sweep-spares reference history group sweep may untouched;
  sets = λ on. refl;
  untouched = untouched;
}
leaves reference history group entry may untouched = record {
  opens = refl;
  makes = tt;
  spares = λ place o there own. record { takes = refl; gives = refl; closed = refl };
  sets = λ on. refl;
  untouched = untouched;
}

-- an entry that may follow and doesn't touch a group leaves its view unchanged
pub view-elsewhere : (reference : Tables) (history : List Entry) (entry : Entry) (group : Group) → MayFollow reference history entry → touches history group entry ≡ false
    → group_view reference (history ++ entry ∷ []) group ≡ group_view reference history group
view-elsewhere reference history entry group may untouched = view-left reference history entry group (leaves reference history group entry may untouched)
