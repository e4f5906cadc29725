-- Takes next to the offers of a view.
use Rattle.gu_view.proofs.Words.{◌≡◌, ℕ, zero, suc, ◌+◌, ◌<◌, ◌≤◌, ◌||◌, ◌&&◌, ◌==◌, not, nat_lt, Bool, true, false, List, [], ◌∷◌, ◌++◌, Option, Some, None, length, map, take, drop, get_or, set, refl, sym, ap, ◌∙◌, arith, inl, inr, AllPairs, find, AllByRecursion, list_any, option_map, unwrap_or, cases_Bool, cases_order, eq-eqb, ne_eqb, lt-ltb, le-ltb, not-false, drop_more, take_more_set, map_more, length-drop, get_or-drop, get_or_default, recursion_from_All, All-from_recursion, IsAscending, lots_of, ViewOffer, Unknown, Offer as UnknownOffer, LimitKey, key_eq-same, key_eq-from, same_agreement, list_any_more, prefix_len_stops, sum_by_more, or-false, key_eq, Agr, Room, has_offer, has_older_rest, unknown_take, has_key, AreLots, split_of, lots_under, GroupView, IsView, place_of, places_under, IfSome, slice_get, sum_by, sum, zero-add, get_or-map, slice_get_cases, slice_get_within, slice_get-map, get_or_from_slice_get, IfSome_then, marked, find_more, Later, Later-from_AllPairs, along, none_any, none_found}
use Rattle.gu_terms.specs.declared.takes.Take.{Take}
use Rattle.gu_view.specs.declared.error.CutFault.{CutFault}
use Rattle.gu_view.proofs.RoomLemmas.{apart}
use Rattle.gu_view.proofs.PassingPlaces.{sum_by-places, sum_by-places-le}

-- among offers with greater numbers none has a smaller one
no_offer_below : (offers : List ViewOffer) (n : ℕ) → AllByRecursion (λ o. n < o.number) offers → has_offer offers n ≡ false
no_offer_below offers n above = none_any (λ o. o.number == n) offers (along (λ o. n < o.number) (λ o. (o.number == n) ≡ false) offers (λ o h. ne_eqb o.number n (λ e. absurd (omega arith))) above)

-- takes from later offers take nothing from an offer
no_lots_below : (takes : List Take) (n : ℕ) → AllByRecursion (λ t. n < t.offer) takes → lots_of takes n ≡ 0
no_lots_below takes n above =
    ap (λ o. unwrap_or (option_map (λ (t : Take). t.lots) o) 0) (none_found (λ t. t.offer == n) takes (along (λ t. n < t.offer) (λ t. (t.offer == n) ≡ false) takes (λ t h. ne_eqb t.offer n (λ e. absurd (omega arith))) above))

-- an offer before all those of the takes doesn't matter to them
unknown-skip : (o : ViewOffer) (offers : List ViewOffer) (takes : List Take) → AllByRecursion (λ t. o.number < t.offer) takes → unknown_take (o ∷ offers) takes ≡ unknown_take offers takes
unknown-skip o offers [] above = refl
unknown-skip o offers (t ∷ takes) above =
    rw (ne_eqb o.number t.offer (λ e. absurd (omega (arith, above.0)))) (
    elim (cases_Bool (has_offer offers t.offer)) [
      | inl known ↦ rw known (unknown-skip o offers takes above.1)
      | inr missing ↦ rw missing refl
    ])

-- a first take doesn't matter to later offers
lots-skip : (t : Take) (takes : List Take) (offers : List ViewOffer) → AllByRecursion (λ o. t.offer < o.number) offers → map (λ (o : ViewOffer). lots_of (t ∷ takes) o.number) offers ≡ map (λ (o : ViewOffer). lots_of takes o.number) offers
lots-skip t takes [] above = refl
lots-skip t takes (o ∷ offers) above =
    rw (ne_eqb t.offer o.number (λ e. absurd (omega (arith, above.0)))) (ap (λ l. lots_of takes o.number ∷ l) (lots-skip t takes offers above.1))

-- what remains after one offer's takes
pub record IsSplit (o : ViewOffer) (offers : List ViewOffer) (takes : List Take) (n : ℕ) (rest : List Take) : Type 0 where
  pub unknown : unknown_take (o ∷ offers) takes ≡ unknown_take offers rest
  pub lots : unknown_take (o ∷ offers) takes ≡ None → lots_of takes o.number ≡ n
  pub others : unknown_take (o ∷ offers) takes ≡ None → map (λ (o : ViewOffer). lots_of takes o.number) offers ≡ map (λ (o : ViewOffer). lots_of rest o.number) offers
  pub ascending : Later (λ a b. a.offer < b.offer) rest

pub split : (o : ViewOffer) (offers : List ViewOffer) (takes : List Take) → AllByRecursion (λ x. o.number < x.number) offers → Later (λ a b. a.offer < b.offer) takes
    → IsSplit o offers takes (split_of takes o.number).0 (split_of takes o.number).1
split o offers [] later ascending = record { unknown = refl; lots = λ _. refl; others = λ _. refl; ascending = tt }
split o offers (t ∷ takes) later ascending =
    elim (cases_order t.offer o.number) [
      | inl same ↦
          let hit : (t.offer == o.number) ≡ true = eq-eqb t.offer o.number same in
          let hit' : (o.number == t.offer) ≡ true = eq-eqb o.number t.offer (sym same) in
          rw hit (record {
            unknown = rw hit' (unknown-skip o offers takes (along (λ s. t.offer < s.offer) (λ s. o.number < s.offer) takes (λ s h. omega arith) ascending.0));
            lots = λ _. rw hit refl;
            others = λ _. lots-skip t takes offers (along (λ x. o.number < x.number) (λ x. t.offer < x.number) offers (λ x h. omega arith) later);
            ascending = ascending.1;
          })
      | inr order ↦ elim order [
        | inl missed ↦
            let miss : (t.offer == o.number) ≡ false = ne_eqb t.offer o.number (λ e. absurd (omega arith)) in
            let miss' : (o.number == t.offer) ≡ false = ne_eqb o.number t.offer (λ e. absurd (omega arith)) in
            let none = no_offer_below offers t.offer (along (λ x. o.number < x.number) (λ x. t.offer < x.number) offers (λ x h. omega arith) later) in
            let gone : unknown_take (o ∷ offers) (t ∷ takes) ≡ Some (Unknown (UnknownOffer t.offer)) = rw (miss', none) refl in
            rw miss (record {
              unknown = gone ∙ rw none refl;
              lots = λ h. absurd (never (sym gone ∙ h));
              others = λ h. absurd (never (sym gone ∙ h));
              ascending = ascending;
            })
        | inr waits ↦
            let miss : (t.offer == o.number) ≡ false = ne_eqb t.offer o.number (λ e. absurd (omega arith)) in
            let above : AllByRecursion (λ s. o.number < s.offer) (t ∷ takes) = (waits, along (λ s. t.offer < s.offer) (λ s. o.number < s.offer) takes (λ s h. omega arith) ascending.0) in
            rw miss (record {
              unknown = unknown-skip o offers (t ∷ takes) above;
              lots = λ _. no_lots_below (t ∷ takes) o.number above;
              others = λ _. refl;
              ascending = ascending;
            })
      ]
    ]
  where
    never : {f : CutFault} → Some f ≡ None → ⊥
    never h = cc

-- the takes of the offers before an index are done
pub record IsFilled (offers : List ViewOffer) (takes : List Take) (i : ℕ) (taken : List ℕ) (rest : List Take) : Type 0 where
  pub unknown : unknown_take offers takes ≡ unknown_take (drop i offers) rest
  pub front : unknown_take offers takes ≡ None → take i taken ≡ map (λ (o : ViewOffer). lots_of takes o.number) (take i offers)
  pub others : unknown_take offers takes ≡ None → map (λ (o : ViewOffer). lots_of takes o.number) (drop i offers) ≡ map (λ (o : ViewOffer). lots_of rest o.number) (drop i offers)
  pub ascending : Later (λ a b. a.offer < b.offer) rest

-- before the first offer
pub filled_none : (offers : List ViewOffer) (takes : List Take) (taken : List ℕ) → IsAscending takes → IsFilled offers takes 0 taken takes
filled_none offers takes taken ascending =
    record { unknown = refl; front = λ _. refl; others = λ _. refl; ascending = Later-from_AllPairs (λ (a b : Take). a.offer < b.offer) takes ascending }

-- one more offer
pub filled_more : (offers : List ViewOffer) (takes : List Take) (i : ℕ) (taken : List ℕ) (rest : List Take) (d : ViewOffer) → i < length offers → length taken ≡ length offers
    → AllPairs (λ a b. a.number < b.number) offers → IsFilled offers takes i taken rest
    → IsFilled offers takes (i + 1) (set taken i (split_of rest (get_or offers i d).number).0) (split_of rest (get_or offers i d).number).1
filled_more offers takes i taken rest d inside long ascending h =
    let o = get_or offers i d in
    let behind = drop (i + 1) offers in
    let here : drop i offers ≡ o ∷ behind = drop_more offers i d inside in
    let later : AllByRecursion (λ x. o.number < x.number) behind =
    recursion_from_All (λ (x : ViewOffer). o.number < x.number) behind
    (λ k e within.
    rw (get_or-drop (i + 1) offers k e, get_or_default offers i d e inside)
    (ascending i (i + 1 + k) e (omega arith) (omega (arith, length-drop (i + 1) offers)))) in
    let s = split o behind rest later h.ascending in
    let step : unknown_take offers takes ≡ unknown_take (o ∷ behind) rest = h.unknown ∙ ap (λ l. unknown_take l rest) here in
    let parts : unknown_take offers takes ≡ None → map (λ (o : ViewOffer). lots_of takes o.number) (o ∷ behind) ≡ map (λ (o : ViewOffer). lots_of rest o.number) (o ∷ behind) = λ none. rw here at (h.others none) in
    let inside' : i < length taken = omega arith in
    record {
      unknown = step ∙ s.unknown;
      front = λ none.
          rw (take_more_set taken i (split_of rest o.number).0 inside', h.front none, map_more (λ (o : ViewOffer). lots_of takes o.number) offers i d inside)
          (ap (λ n. map (λ (o : ViewOffer). lots_of takes o.number) (take i offers) ++ n ∷ []) (sym (cons_head (parts none) ∙ s.lots (sym step ∙ none))));
      others = λ none. cons_tail (parts none) ∙ s.others (sym step ∙ none);
      ascending = s.ascending;
    }
  where
    cons_head : {a b : ℕ} {more others : List ℕ} → a ∷ more ≡ b ∷ others → a ≡ b
    cons_head h = cc

    cons_tail : {a b : ℕ} {more others : List ℕ} → a ∷ more ≡ b ∷ others → more ≡ others
    cons_tail h = cc

-- among ascending offers, the older ones that pass a test are those before it
pub older_is_before : (test : ViewOffer → Bool) (offers : List ViewOffer) (i : ℕ) (d : ViewOffer) → i < length offers → Later (λ a b. a.number < b.number) offers
    → list_any (λ older. nat_lt older.number (get_or offers i d).number && test older) offers ≡ list_any test (take i offers)
older_is_before test [] i d inside ascending = absurd (omega arith)
older_is_before test (o ∷ offers) zero d inside ascending =
    rw (le-ltb o.number o.number (omega arith)) (none_any (λ older. nat_lt older.number o.number && test older) offers (along (λ x. o.number < x.number) (λ x. (nat_lt x.number o.number && test x) ≡ false) offers (λ x h. rw (le-ltb x.number o.number (omega arith)) refl) ascending.0))
older_is_before test (o ∷ offers) (suc i) d inside ascending =
    let later = All-from_recursion (λ (x : ViewOffer). o.number < x.number) offers ascending.0 i d (omega arith) in
    rw (lt-ltb o.number (get_or offers i d).number later) (ap (λ b. test o || b) (older_is_before test offers i d (omega arith) ascending.1))

-- an offer isn't full, and its agreement has this room
abbrev pub is_short : (ℕ → ℕ) → Room → ViewOffer → Bool
is_short lots r o = key_eq (Agr o.agreement) r.key && nat_lt (lots o.number) o.lots

-- an offer takes lots while an older one of its agreement isn't full
abbrev pub is_too_early : List ViewOffer → (ℕ → ℕ) → ViewOffer → Bool
is_too_early offers lots o = nat_lt 0 (lots o.number) && has_older_rest offers lots o

-- none of the offers before an index takes lots too early, and the marks say which agreements have one that isn't full
pub record IsWalked (offers : List ViewOffer) (rooms : List Room) (lots : ℕ → ℕ) (i : ℕ) (short : List Bool) : Type 0 where
  pub none_early : find (is_too_early offers lots) (take i offers) ≡ None
  pub short_are : short ≡ map (λ r. list_any (is_short lots r) (take i offers)) rooms

-- the lots taken from the offer at an index
pub lots_here : (offers : List ViewOffer) (taken : List ℕ) (lots : ℕ → ℕ) (i : ℕ) (o : ViewOffer) → AreLots offers taken lots → i < length offers → o ≡ get_or offers i o → get_or taken i 0 ≡ lots o.number
lots_here offers taken lots i o are inside is =
    ap (λ l. get_or l i 0) are ∙ get_or-map (λ (o : ViewOffer). lots o.number) offers i o 0 inside ∙ ap (λ (o : ViewOffer). lots o.number) (sym is)

-- the lots at the indexes under a key are part of all that is taken
pub under_fits : (offers : List ViewOffer) (rooms : List Room) (taken places : List ℕ) (i : ℕ) → i < length rooms → length taken ≡ length offers
    → IfSome (slice_get rooms i) (λ (r : Room). places ≡ places_under offers r.key) → sum_by (λ p. get_or taken p 0) places ≤ sum taken
under_fits offers rooms taken places i inside long are =
    elim (slice_get_cases rooms i).1 [
      | inl found ↦
          let same : places ≡ places_under offers found.0.key = rw found.2 at are in
          rw same (sum_by-places-le (λ (o : ViewOffer). has_key o.path found.0.key) (λ p. get_or taken p 0) 0 offers taken long (λ k within. ap (λ n. get_or taken n 0) (zero-add k)))
      | inr past ↦ absurd (omega (arith, past.0))
    ]

-- they are what is taken under it
pub under_is : (offers : List ViewOffer) (taken places : List ℕ) (room : Option Room) (n : ℕ) (lots : ℕ → ℕ) → AreLots offers taken lots
    → IfSome room (λ (r : Room). places ≡ places_under offers r.key) → n ≡ sum_by (λ p. get_or taken p 0) places → IfSome room (λ (r : Room). n ≡ lots_under offers r.key lots)
under_is offers taken places None n lots are from is = tt
under_is offers taken places (Some r) n lots are from is =
    is ∙ ap (sum_by (λ p. get_or taken p 0)) from
    ∙ sum_by-places (λ (o : ViewOffer). has_key o.path r.key) (λ (o : ViewOffer). lots o.number) (λ p. get_or taken p 0) 0 offers
    (λ k d within. ap (λ l. get_or l (0 + k) 0) are ∙ ap (λ n. get_or (map (λ (o : ViewOffer). lots o.number) offers) n 0) (zero-add k) ∙ get_or-map (λ (o : ViewOffer). lots o.number) offers k d 0 within)

-- the room of an offer's agreement is at the second of its indexes
pub agreement_at : (view : GroupView) → IsView view → (i : ℕ) (places : List ℕ) → i < length view.offers → IfSome (slice_get view.offers i) (λ (o : ViewOffer). places ≡ map (place_of view.rooms) o.path)
    → IfSome (slice_get view.offers i) (λ (o : ViewOffer). slice_get places 1 ≡ Some (place_of view.rooms (Agr o.agreement)))
agreement_at view sound i places inside are =
    elim (slice_get_cases view.offers i).1 [
      | inl found ↦
          let o = found.0 in
          let own : slice_get o.path 1 ≡ Some (Agr o.agreement) = rw found.3 at (sound.own i o found.1) in
          rw found.2 (
          let same : places ≡ map (place_of view.rooms) o.path = rw found.2 at are in
          ap (λ l. slice_get l 1) same ∙ slice_get-map (place_of view.rooms) o.path 1 ∙ ap (option_map (place_of view.rooms)) own)
      | inr past ↦ absurd (omega (arith, past.0))
    ]

-- so it has at least two indexes
pub two_places : (offers : List ViewOffer) (rooms : List Room) (i : ℕ) (places : List ℕ) → i < length offers
    → IfSome (slice_get offers i) (λ (o : ViewOffer). slice_get places 1 ≡ Some (place_of rooms (Agr o.agreement))) → 1 < length places
two_places offers rooms i places inside at =
    elim (slice_get_cases offers i).1 [
      | inl found ↦ slice_get_within places 1 (place_of rooms (Agr found.0.agreement)) (rw found.2 at at)
      | inr past ↦ absurd (omega (arith, past.0))
    ]

-- a room that passes for a key has that key
pub key_at_place : (rooms : List Room) (k : LimitKey) (d : Room) → place_of rooms k < length rooms → (get_or rooms (place_of rooms k) d).key ≡ k
key_at_place rooms k d inside =
    key_eq-same (get_or rooms (place_of rooms k) d).key k (not-false (key_eq (get_or rooms (place_of rooms k) d).key k) (prefix_len_stops (λ (r : Room). not (key_eq r.key k)) rooms d inside))

module _ (view : GroupView) (sound : IsView view) (lots : ℕ → ℕ) (i place : ℕ) (short : List Bool) (o : ViewOffer)
    (inside : i < length view.offers) (is : o ≡ get_or view.offers i o) (within : place < length view.rooms) (at : place ≡ place_of view.rooms (Agr o.agreement)) (h : IsWalked view.offers view.rooms lots i short) where
  -- the room of the offer's agreement
  here : Room
  here = get_or view.rooms place (record { key = Agr o.agreement; lots = 0 })

  here-key : here.key ≡ Agr o.agreement
  unfolding here
  here-key = rw at (key_at_place view.rooms (Agr o.agreement) (record { key = Agr o.agreement; lots = 0 }) (rw at at within))

  -- the mark of that room
  mark_is : get_or short place false ≡ list_any (is_short lots here) (take i view.offers)
  unfolding here
  mark_is = ap (λ l. get_or l place false) h.short_are ∙ get_or-map (λ (r : Room). list_any (is_short lots r) (take i view.offers)) view.rooms place (record { key = Agr o.agreement; lots = 0 }) false within

  -- says whether an older offer isn't full
  pub mark_says : has_older_rest view.offers lots o ≡ get_or short place false
  mark_says =
      ap (λ (n : ℕ). list_any (λ older. nat_lt older.number n && (same_agreement older o && nat_lt (lots older.number) older.lots)) view.offers) (ap (λ (o : ViewOffer). o.number) is)
      ∙ older_is_before (λ older. same_agreement older o && nat_lt (lots older.number) older.lots) view.offers i o inside (Later-from_AllPairs (λ (a b : ViewOffer). a.number < b.number) view.offers sound.ascending)
      ∙ ap (λ k. list_any (λ (older : ViewOffer). key_eq (Agr older.agreement) k && nat_lt (lots older.number) older.lots) (take i view.offers)) (sym here-key)
      ∙ sym mark_is

  -- one more offer is passed
  pub walked_more : (mark : Bool) → is_too_early view.offers lots o ≡ false → mark ≡ (get_or short place false || nat_lt (lots o.number) o.lots)
      → IsWalked view.offers view.rooms lots (i + 1) (set short place mark)
  unfolding here
  walked_more mark quiet marks =
      let d : Room = record { key = Agr o.agreement; lots = 0 } in
      let f : Room → Bool = λ r. list_any (is_short lots r) (take i view.offers) in
      let g : Room → Bool = λ r. list_any (is_short lots r) (take (i + 1) view.offers) in
      let more : (r : Room) → g r ≡ (f r || is_short lots r o) = λ r. list_any_more (is_short lots r) view.offers i o inside ∙ ap (λ x. f r || is_short lots r x) (sym is) in
      record {
        none_early = find_more (is_too_early view.offers lots) view.offers i o inside h.none_early (ap (is_too_early view.offers lots) (sym is) ∙ quiet);
        short_are =
            ap (λ l. set l place mark) h.short_are
            ∙ marked f g view.rooms place mark d within
            (more here ∙ ap (λ b. f here || (b && nat_lt (lots o.number) o.lots)) (key_eq-from (Agr o.agreement) here.key (sym here-key)) ∙ ap (λ b. b || nat_lt (lots o.number) o.lots) (sym mark_is) ∙ sym marks)
            (λ k there other.
            let differs : key_eq (Agr o.agreement) (get_or view.rooms k d).key ≡ false = ap (λ j. key_eq j (get_or view.rooms k d).key) (sym here-key) ∙ apart view sound place k d within there (λ e. other (sym e)) in
            more (get_or view.rooms k d) ∙ ap (λ b. f (get_or view.rooms k d) || (b && nat_lt (lots o.number) o.lots)) differs ∙ or-false (f (get_or view.rooms k d)));
      }

pub agreement_is : (offers : List ViewOffer) (rooms : List Room) (i : ℕ) (places : List ℕ)
    → IfSome (slice_get offers i) (λ (o : ViewOffer). slice_get places 1 ≡ Some (place_of rooms (Agr o.agreement))) → IfSome (slice_get offers i) (λ (o : ViewOffer). get_or places 1 0 ≡ place_of rooms (Agr o.agreement))
agreement_is offers rooms i places at = IfSome_then (slice_get offers i) at (λ o h. get_or_from_slice_get places 1 (place_of rooms (Agr o.agreement)) 0 h)

-- one more offer from which no more is taken than it has
pub sum_more : (taken : List ℕ) (offers : List ViewOffer) (i : ℕ) (o : ViewOffer) → i < length taken → i < length offers → o ≡ get_or offers i o → sum (take i taken) ≤ sum_by (λ (o : ViewOffer). o.lots) (take i offers)
    → get_or taken i 0 ≤ o.lots → sum (take (i + 1) taken) ≤ sum_by (λ (o : ViewOffer). o.lots) (take (i + 1) offers)
sum_more taken offers i o inside within is before here =
    let same : o.lots ≡ (get_or offers i o).lots = ap (λ (o : ViewOffer). o.lots) is in
    omega (arith, sum_by_more (λ (n : ℕ). n) taken i 0 inside, sum_by_more (λ (o : ViewOffer). o.lots) offers i o within)
