-- Making a view.
use Rattle.gu_view.proofs.Words.{◌≡◌, ◌≢◌, ℕ, suc, ◌+◌, ◌<◌, ◌≤◌, ◌||◌, ◌&&◌, not, Bool, true, false, cond, List, [], ◌∷◌, ◌++◌, Option, Some, None, length, map, take, drop, get_or, refl, sym, ap, ◌∙◌, subst, arith, inl, inr, All, AllPairs, find, Any, nat_lt, AllByRecursion, list_any, zip, option_map, cases_Bool, or_right, or_from, and_from, and_left, and_right, take_more, drop_more, get_or_default, get_or-take, length-take, All-more, All-from_recursion, recursion_from_All, list_any_more, list_any_kept, list_any_at, Any-from_list_any, bytes_eq-Decides, slice_eq-Decides, key_eq, has_key, AgreementId, LimitKey, Agr, key_eq-same, key_eq-refl, key_eq-from, take_all, slice_get_past, bad_offer, numbered, is_bad, is_own, has_other_path, same_agreement, path_differs, zero, ◌==◌, nat_le, option_map_or, slice_get, or_parts, leb-false, ltb-false, not-false, length-map, slice_get_cases, ViewOffer, Room, Ok, Err, Result, IfOk, MatchOption, is_some, option_or, unwrap_or, both_ways, map_more, find-append, has_room, IsGiven, AreRooms, in_order, lots_given, Later, AllPairs-from_Later, Later-from_AllPairs, along, any_none, find_more, find_none, none_any, none_found}
use Rattle.std.specs.Cmp.Lexicographic.{pointwise}
use Rattle.gu_terms.specs.Numbers.{IsLots}
use Rattle.std.specs.Map.{lookup}
use Rattle.std.proofs.lemmas.List.Quantifiers.{all_pairs_push}
use Rattle.gu_view.proofs.TakesLemmas.{older_is_before}

-- the first bad offer among those after a number
abbrev pub bad_after : ℕ → List ViewOffer → Option (ℕ × ViewOffer)
bad_after before offers = find (λ (p : ℕ × ViewOffer). is_bad p.0 p.1) (zip (before ∷ map (λ (o : ViewOffer). o.number) offers) offers)

-- the next offer
pub bad_here : (before : ℕ) (offers : List ViewOffer) (i : ℕ) (o : ViewOffer) → i < length offers → o ≡ get_or offers i o → is_bad before o ≡ true → bad_after before (drop i offers) ≡ Some (before, o)
bad_here before offers i o inside is bad = ap (bad_after before) (drop_more offers i o inside ∙ ap (λ x. x ∷ drop (i + 1) offers) (sym is)) ∙ rw bad refl

pub bad_later : (before : ℕ) (offers : List ViewOffer) (i : ℕ) (o : ViewOffer) → i < length offers → o ≡ get_or offers i o → is_bad before o ≡ false → bad_after before (drop i offers) ≡ bad_after o.number (drop (i + 1) offers)
bad_later before offers i o inside is good = ap (bad_after before) (drop_more offers i o inside ∙ ap (λ x. x ∷ drop (i + 1) offers) (sym is)) ∙ rw good refl

-- the test of agreements
abbrev pub agreement_eq : AgreementId → AgreementId → Bool
agreement_eq a b = key_eq (Agr a) (Agr b)

pub agreement_eq-same : (a b : AgreementId) → agreement_eq a b ≡ true → a ≡ b
agreement_eq-same a b h = ap (λ n. let x : AgreementId = record { name = n } in x) ((bytes_eq-Decides a.name b.name).0 h)

-- two paths that pass are equal
pub path_eq-same : (a b : List LimitKey) → pointwise key_eq a b ≡ true → a ≡ b
path_eq-same a b h = (slice_eq-Decides (λ a b. (key_eq-same a b, key_eq-from a b)) a b (pointwise key_eq a b) refl).0 h

pub path_eq-refl : (a : List LimitKey) → pointwise key_eq a a ≡ true
path_eq-refl a = (slice_eq-Decides (λ a b. (key_eq-same a b, key_eq-from a b)) a a (pointwise key_eq a a) refl).1 refl

-- an offer whose path isn't that of its agreement
abbrev pub is_odd : List ViewOffer → ViewOffer → Bool
is_odd offers o = not (is_own o) || has_other_path offers o

-- the paths of the offers before an index are those recorded for their agreements, and no other path is recorded
pub record IsSeen (offers : List ViewOffer) (i : ℕ) (paths : AgreementId → Option (List LimitKey)) : Type 0 where
  pub even : find (is_odd offers) (take i offers) ≡ None
  pub kept : All (λ o. paths o.agreement ≡ Some o.path) (take i offers)
  pub known : (a : AgreementId) (path : List LimitKey) → paths a ≡ Some path → list_any (λ o. agreement_eq o.agreement a) (take i offers) ≡ true

module _ (offers : List ViewOffer) (i : ℕ) (paths : AgreementId → Option (List LimitKey)) (o : ViewOffer) (ascending : AllPairs (λ a b. a.number < b.number) offers)
    (inside : i < length offers) (is : o ≡ get_or offers i o) (seen : IsSeen offers i paths) where
  -- an earlier offer under its agreement has another path
  pub others : ViewOffer → Bool
  others older = same_agreement older o && not (pointwise key_eq older.path o.path)

  pub others_are : has_other_path offers o ≡ list_any others (take i offers)
  unfolding others
  others_are =
      ap (λ (n : ℕ). list_any (λ older. nat_lt older.number n && (same_agreement older o && not (pointwise key_eq older.path o.path))) offers) (ap (λ (o : ViewOffer). o.number) is)
      ∙ older_is_before (λ older. same_agreement older o && not (pointwise key_eq older.path o.path)) offers i o inside (Later-from_AllPairs (λ (a b : ViewOffer). a.number < b.number) offers ascending)

  -- none has, if no path is recorded for its agreement, or this very path is
  pub even_new : paths o.agreement ≡ None → has_other_path offers o ≡ false
  unfolding others
  even_new none =
      others_are ∙ none_any others (take i offers) (recursion_from_All (λ e. others e ≡ false) (take i offers) (λ k d within.
      let e = get_or (take i offers) k d in
      elim (cases_Bool (same_agreement e o)) [
        | inl same ↦ let known : paths e.agreement ≡ None = ap paths (agreement_eq-same e.agreement o.agreement same) ∙ none in absurd (none_some (sym known ∙ seen.kept k d within))
        | inr apart ↦ and_left _ _ apart
      ]))
    where
      none_some : {p : List LimitKey} → ◌≡◌ {A = Option (List LimitKey)} None (Some p) → ⊥
      none_some h = cc

  pub even_known : paths o.agreement ≡ Some o.path → has_other_path offers o ≡ false
  unfolding others
  even_known known =
      others_are ∙ none_any others (take i offers) (recursion_from_All (λ e. others e ≡ false) (take i offers) (λ k d within.
      let e = get_or (take i offers) k d in
      elim (cases_Bool (same_agreement e o)) [
        | inl same ↦
            let path : e.path ≡ o.path = some_same (sym (seen.kept k d within) ∙ ap paths (agreement_eq-same e.agreement o.agreement same) ∙ known) in
            and_right _ _ (ap (λ p. not (pointwise key_eq p o.path)) path ∙ ap not (path_eq-refl o.path))
        | inr apart ↦ and_left _ _ apart
      ]))
    where
      some_same : {p q : List LimitKey} → Some p ≡ Some q → p ≡ q
      some_same h = cc

  -- another path is recorded
  pub odd_known : (path : List LimitKey) → paths o.agreement ≡ Some path → pointwise key_eq path o.path ≡ false → has_other_path offers o ≡ true
  unfolding others
  odd_known path known other =
      others_are ∙ at (Any-from_list_any (λ (e : ViewOffer). agreement_eq e.agreement o.agreement) (take i offers) (seen.known o.agreement path known))
    where
      at : Any (λ (e : ViewOffer). agreement_eq e.agreement o.agreement ≡ true) (take i offers) → list_any others (take i offers) ≡ true
      at (k, e, within, e-is, same) =
          let mine : paths e.agreement ≡ Some e.path = ap (λ (e : ViewOffer). paths e.agreement) (sym e-is) ∙ seen.kept k e within ∙ ap (λ (e : ViewOffer). Some e.path) e-is in
          let theirs : e.path ≡ path = some_same (sym mine ∙ ap paths (agreement_eq-same e.agreement o.agreement same) ∙ known) in
          list_any_at others (take i offers) k e within (ap others e-is ∙ and_from _ _ same (ap (λ p. not (pointwise key_eq p o.path)) theirs ∙ ap not other))
        where
          some_same : {p q : List LimitKey} → Some p ≡ Some q → p ≡ q
          some_same h = cc

  -- one more offer is seen: its path is already recorded
  pub seen_known : is_own o ≡ true → paths o.agreement ≡ Some o.path → IsSeen offers (i + 1) paths
  seen_known own known = record {
    even = find_more (is_odd offers) offers i o inside seen.even (ap (is_odd offers) (sym is) ∙ or_from _ _ (ap not own) (even_known known));
    kept = All-more (λ (o : ViewOffer). paths o.agreement ≡ Some o.path) offers i o inside seen.kept (subst (λ (o : ViewOffer). paths o.agreement ≡ Some o.path) is known);
    known = λ a path at. list_any_kept (λ (o : ViewOffer). agreement_eq o.agreement a) offers i (seen.known a path at);
  }

  -- or is recorded now
  pub seen_new : (after : AgreementId → Option (List LimitKey)) → is_own o ≡ true → paths o.agreement ≡ None → ((a : AgreementId) → after a ≡ cond (agreement_eq o.agreement a) (Some o.path) (paths a)) → IsSeen offers (i + 1) after
  seen_new after own none updated = record {
    even = find_more (is_odd offers) offers i o inside seen.even (ap (is_odd offers) (sym is) ∙ or_from _ _ (ap not own) (even_new none));
    kept = All-more (λ (o : ViewOffer). after o.agreement ≡ Some o.path) offers i o inside
        (λ k d within.
        let e = get_or (take i offers) k d in
        elim (cases_Bool (agreement_eq o.agreement e.agreement)) [
          | inl same ↦ let gone : paths e.agreement ≡ None = ap paths (sym (agreement_eq-same o.agreement e.agreement same)) ∙ none in absurd (none_some (sym gone ∙ seen.kept k d within))
          | inr apart ↦ updated e.agreement ∙ rw apart (seen.kept k d within)
        ])
        (subst (λ (o : ViewOffer). after o.agreement ≡ Some o.path) is (updated o.agreement ∙ rw (key_eq-refl (Agr o.agreement)) refl));
    known = λ a path at.
        elim (cases_Bool (agreement_eq o.agreement a)) [
          | inl same ↦ list_any_more (λ (e : ViewOffer). agreement_eq e.agreement a) offers i o inside ∙ or_right _ _ (ap (λ (e : ViewOffer). agreement_eq e.agreement a) (sym is) ∙ same)
          | inr apart ↦ list_any_kept (λ (e : ViewOffer). agreement_eq e.agreement a) offers i (seen.known a path (sym (updated a ∙ rw apart refl) ∙ at))
        ];
  }
    where
      none_some : {p : List LimitKey} → ◌≡◌ {A = Option (List LimitKey)} None (Some p) → ⊥
      none_some h = cc

-- a search among the rooms that finds nothing, and one that finds something
no_room : (rooms : List Room) (k : LimitKey) → lots_given rooms k ≡ None → has_room rooms k ≡ false
no_room rooms k none = none_any (λ r. key_eq r.key k) rooms (find_none (λ r. key_eq r.key k) rooms (named (find (λ r. key_eq r.key k) rooms) none))
  where
    named : (found : Option Room) → option_map (λ (r : Room). r.lots) found ≡ None → found ≡ None
    named None h = refl
    named (Some r) h = cc

some_room : (rooms : List Room) (k : LimitKey) (n : ℕ) → lots_given rooms k ≡ Some n → has_room rooms k ≡ true
some_room rooms k n some =
    elim (cases_Bool (has_room rooms k)) [
      | inl hit ↦ hit
      | inr miss ↦
          let none : lots_given rooms k ≡ None = ap (option_map (λ (r : Room). r.lots)) (none_found (λ r. key_eq r.key k) rooms (any_none (λ r. key_eq r.key k) rooms miss)) in
          absurd (none_some (sym none ∙ some))
    ]
  where
    none_some : {n : ℕ} → ◌≡◌ {A = Option ℕ} None (Some n) → ⊥
    none_some h = cc

module _ (keys : List LimitKey) (rooms : List Room) (i : ℕ) (r : Room) (inside : i < length rooms) (is : r ≡ get_or rooms i r) where
  -- a room that is too high, not needed, or given twice
  pub too_high : 1000000000 < r.lots → AreRooms keys rooms → ⊥
  too_high high are = omega (arith, are.limits i r inside, ap (λ (r : Room). r.lots) is)

  pub needless : has_key keys r.key ≡ false → AreRooms keys rooms → ⊥
  needless missing are = both_ways (has_key keys r.key) missing (ap (λ (r : Room). has_key keys r.key) is ∙ are.needed i r inside)

  pub given_twice : (lots : LimitKey → Option ℕ) (n : ℕ) → IsGiven keys (take i rooms) lots → lots r.key ≡ Some n → AreRooms keys rooms → ⊥
  given_twice lots n given some are = at (Any-from_list_any (λ (e : Room). key_eq e.key r.key) (take i rooms) (some_room (take i rooms) r.key n (sym (given.lots_are r.key) ∙ some)))
    where
      at : Any (λ (e : Room). key_eq e.key r.key ≡ true) (take i rooms) → ⊥
      at (k, e, within, e-is, same) =
          let before : k < i = omega (arith, length-take i rooms) in
          let here : get_or rooms k e ≡ e = sym (get_or-take i rooms k e before) ∙ e-is in
          are.once k i e before inside (ap (λ (e : Room). e.key) here ∙ key_eq-same e.key r.key same ∙ ap (λ (r : Room). r.key) (is ∙ get_or_default rooms i r e inside))

  -- one more room is given
  pub given_more : (lots after : LimitKey → Option ℕ) → IsGiven keys (take i rooms) lots → r.lots ≤ 1000000000 → has_key keys r.key ≡ true → lots r.key ≡ None
      → ((k : LimitKey) → after k ≡ cond (key_eq r.key k) (Some r.lots) (lots k)) → IsGiven keys (take (i + 1) rooms) after
  given_more lots after given low known none updated = record {
    needed = All-more (λ (r : Room). has_key keys r.key ≡ true) rooms i r inside given.needed (subst (λ (r : Room). has_key keys r.key ≡ true) is known);
    once =
        rw (take_more rooms i r inside, ← is)
        (all_pairs_push (λ (a b : Room). a.key ≢ b.key) (take i rooms) r given.once
        (λ k d within same.
        both_ways (key_eq (get_or (take i rooms) k d).key r.key)
        (All-from_recursion (λ (e : Room). key_eq e.key r.key ≡ false) (take i rooms) (any_none (λ (e : Room). key_eq e.key r.key) (take i rooms) (no_room (take i rooms) r.key (sym (given.lots_are r.key) ∙ none))) k d within)
        (key_eq-from (get_or (take i rooms) k d).key r.key same)));
    limits = All-more (λ (r : Room). r.lots ≤ 1000000000) rooms i r inside given.limits (subst (λ (r : Room). r.lots ≤ 1000000000) is low);
    lots_are = λ k.
        updated k ∙ sym (ap (λ l. lots_given l k) (take_more rooms i r inside ∙ ap (λ (x : Room). take i rooms ++ x ∷ []) (sym is)) ∙ ap (option_map (λ (r : Room). r.lots)) (find-append (λ e. key_eq e.key k) (take i rooms) (r ∷ [])) ∙ last k);
  }
    where
      none_named : (found : Option Room) → option_map (λ (r : Room). r.lots) found ≡ None → found ≡ None
      none_named None h = refl
      none_named (Some x) h = cc

      joined : (found : Option Room) → option_map (λ (r : Room). r.lots) (option_or found None) ≡ option_map (λ (r : Room). r.lots) found
      joined None = refl
      joined (Some x) = refl

      last : (k : LimitKey) → option_map (λ (r : Room). r.lots) (option_or (find (λ e. key_eq e.key k) (take i rooms)) (find (λ e. key_eq e.key k) (r ∷ []))) ≡ cond (key_eq r.key k) (Some r.lots) (lots k)
      last k =
          elim (cases_Bool (key_eq r.key k)) [
            | inl same ↦
                let gone : find (λ (e : Room). key_eq e.key k) (take i rooms) ≡ None = none_named (find (λ (e : Room). key_eq e.key k) (take i rooms)) (sym (given.lots_are k) ∙ ap lots (sym (key_eq-same r.key k same)) ∙ none) in
                rw (gone, same) refl
            | inr other ↦ rw other (joined (find (λ (e : Room). key_eq e.key k) (take i rooms)) ∙ sym (given.lots_are k))
          ]

-- a key that has no room
pub key_missing : (keys : List LimitKey) (rooms : List Room) (i : ℕ) (k : LimitKey) → i < length keys → k ≡ get_or keys i k → lots_given rooms k ≡ None → AreRooms keys rooms → ⊥
key_missing keys rooms i k inside is none are = both_ways (has_room rooms k) (no_room rooms k none) (ap (has_room rooms) is ∙ are.whole i k inside)

-- one more key has its room
pub ordered_more : (keys : List LimitKey) (rooms made : List Room) (i : ℕ) (k : LimitKey) (n : ℕ) → i < length keys → k ≡ get_or keys i k → lots_given rooms k ≡ Some n
    → All (λ k. has_room rooms k ≡ true) (take i keys) × (made ≡ in_order (take i keys) rooms) → All (λ k. has_room rooms k ≡ true) (take (i + 1) keys) × (made ++ record { key = k; lots = n } ∷ [] ≡ in_order (take (i + 1) keys) rooms)
ordered_more keys rooms made i k n inside is some h = (
  All-more (λ k. has_room rooms k ≡ true) keys i k inside h.0 (subst (λ k. has_room rooms k ≡ true) is (some_room rooms k n some)),
  ap (λ l. l ++ record { key = k; lots = n } ∷ []) h.1
      ∙ ap (λ (x : Room). in_order (take i keys) rooms ++ x ∷ []) (ap (λ o. let x : Room = record { key = k; lots = unwrap_or o 0 } in x) (sym some) ∙ ap (λ j. let x : Room = record { key = j; lots = unwrap_or (lots_given rooms j) 0 } in x) is)
      ∙ sym (map_more (λ k. let x : Room = record { key = k; lots = unwrap_or (lots_given rooms k) 0 } in x) keys i k inside),
)

-- rooms that are given once each, for each key
pub rooms_made : {V E : Type 0} (items : V → List Room) (keys : List LimitKey) (rooms : List Room) (lots : LimitKey → Option ℕ) (answer : Result (Option V) E) → IsGiven keys rooms lots
    → IfOk answer (λ made. MatchOption made (¬ AreRooms keys rooms) (λ v. All (λ k. has_room rooms k ≡ true) keys × (items v ≡ in_order keys rooms)))
    → IfOk answer (λ made. MatchOption made (¬ AreRooms keys rooms) (λ v. AreRooms keys rooms × (items v ≡ in_order keys rooms)))
rooms_made items keys rooms lots (Err e) given h = tt
rooms_made items keys rooms lots (Ok None) given h = h
rooms_made items keys rooms lots (Ok (Some v)) given h = (record { needed = given.needed; whole = h.0; once = given.once; limits = given.limits }, h.1)

-- a look-up by tests that agree
pub lookup-agree : {K V : Type 0} (p q : K → Bool) (entries : List (K × V)) → ((k : K) → p k ≡ q k) → lookup p entries ≡ lookup q entries
lookup-agree p q [] same = refl
lookup-agree p q (e ∷ entries) same = rw (same e.0, lookup-agree p q entries same) refl

-- what is known of the agreements before the first offer
pub seen_none : (offers : List ViewOffer) (paths : AgreementId → Option (List LimitKey)) → ((a : AgreementId) → paths a ≡ None) → IsSeen offers 0 paths
seen_none offers paths none = record { even = refl; kept = λ k d within. absurd (omega arith); known = λ a path at. absurd (none_some (sym (none a) ∙ at)) }
  where
    none_some : {p : List LimitKey} → ◌≡◌ {A = Option (List LimitKey)} None (Some p) → ⊥
    none_some h = cc

-- if there are few offers, the first bad one is the first of all
pub bad_of_few : (offers : List ViewOffer) → length offers ≤ 4096 → option_map (λ (p : ℕ × ViewOffer). p.1.number) (find (λ (p : ℕ × ViewOffer). is_bad p.0 p.1) (numbered offers)) ≡ bad_offer offers
bad_of_few offers few =
    rw (take_all 4096 offers few, slice_get_past offers 4096 few) (sym (or-none (option_map (λ (p : ℕ × ViewOffer). p.1.number) (find (λ (p : ℕ × ViewOffer). is_bad p.0 p.1) (numbered offers)))))
  where
    or-none : (found : Option ℕ) → option_or found None ≡ found
    or-none None = refl
    or-none (Some n) = refl

-- a value, or none
pub some_value : (o : Option ℕ) → is_some o ≡ true → (n : ℕ) × (o ≡ Some n)
some_value None h = cc
some_value (Some n) h = (n, refl)

pub no_value : (o : Option ℕ) → is_some o ≡ false → o ≡ None
no_value None h = refl
no_value (Some n) h = cc

-- lists compared by tests that agree
pub pointwise-agree : (p q : LimitKey → LimitKey → Bool) (a b : List LimitKey) → ((j k : LimitKey) → p j k ≡ q j k) → pointwise p a b ≡ pointwise q a b
pointwise-agree p q [] [] same = refl
pointwise-agree p q [] (k ∷ b) same = refl
pointwise-agree p q (j ∷ a) [] same = refl
pointwise-agree p q (j ∷ a) (k ∷ b) same = rw (same j k, pointwise-agree p q a b same) refl

-- no offer in a list is bad
pub record AreGood (before : ℕ) (offers : List ViewOffer) : Type 0 where
  pub above : AllByRecursion (λ (o : ViewOffer). before < o.number) offers
  pub ascending : Later (λ (a b : ViewOffer). a.number < b.number) offers
  pub lots : AllByRecursion (λ (o : ViewOffer). IsLots o.lots) offers

good_after : (before : ℕ) (offers : List ViewOffer) → bad_after before offers ≡ None → AreGood before offers
good_after before [] none = record { above = tt; ascending = tt; lots = tt }
good_after before (o ∷ offers) none =
    let here = none_here (is_bad before o) (before, o) (bad_after o.number offers) none in
    let parts = or_parts (nat_le o.number before) (o.lots == 0 || nat_lt 1000000 o.lots) here.0 in
    let lots = or_parts (o.lots == 0) (nat_lt 1000000 o.lots) parts.1 in
    let rest = good_after o.number offers here.1 in
    let above : before < o.number = leb-false o.number before parts.0 in
    record {
      above = (above, along (λ (x : ViewOffer). o.number < x.number) (λ (x : ViewOffer). before < x.number) offers (λ x h. omega arith) rest.above);
      ascending = (rest.above, rest.ascending);
      lots = (record { some = some (o.lots) lots.0; most = ltb-false 1000000 o.lots lots.1 }, rest.lots);
    }
  where
    none_here : (b : Bool) (p : ℕ × ViewOffer) (rest : Option (ℕ × ViewOffer)) → cond b (Some p) rest ≡ None → (b ≡ false) × (rest ≡ None)
    none_here true p rest h = cc
    none_here false p rest h = (refl, h)

    some : (n : ℕ) → (n == 0) ≡ false → 1 ≤ n
    some zero h = cc
    some (suc n) h = omega arith

-- no offer is bad
pub record AreOffers (offers : List ViewOffer) : Type 0 where
  pub few : length offers ≤ 4096
  pub ascending : AllPairs (λ a b. a.number < b.number) offers
  pub lots : All (λ o. IsLots o.lots) offers

pub good_offers : (offers : List ViewOffer) → bad_offer offers ≡ None → AreOffers offers
good_offers offers none =
    let parts = both_none (option_map (λ (p : ℕ × ViewOffer). p.1.number) (find (λ (p : ℕ × ViewOffer). is_bad p.0 p.1) (numbered (take 4096 offers)))) (option_map (λ (o : ViewOffer). o.number) (slice_get offers 4096)) none in
    let few : length offers ≤ 4096 =
    elim (slice_get_cases offers 4096).1 [
      | inl found ↦ absurd (some_none (ap (option_map (λ (o : ViewOffer). o.number)) (sym found.2) ∙ parts.1))
      | inr past ↦ past.0
    ] in
    let good = good_after 0 offers (named_none (find (λ (p : ℕ × ViewOffer). is_bad p.0 p.1) (numbered offers)) (rw (take_all 4096 offers few) at parts.0)) in
    record {
      few = few;
      ascending = AllPairs-from_Later (λ (a b : ViewOffer). a.number < b.number) offers good.ascending;
      lots = All-from_recursion (λ (o : ViewOffer). IsLots o.lots) offers good.lots;
    }
  where
    both_none : (a b : Option ℕ) → option_or a b ≡ None → (a ≡ None) × (b ≡ None)
    both_none None b h = (refl, h)
    both_none (Some n) b h = cc

    some_none : {n : ℕ} → ◌≡◌ {A = Option ℕ} (Some n) None → ⊥
    some_none h = cc

    named_none : (found : Option (ℕ × ViewOffer)) → option_map (λ (p : ℕ × ViewOffer). p.1.number) found ≡ None → found ≡ None
    named_none None h = refl
    named_none (Some p) h = cc

-- no path is odd
pub record ArePaths (offers : List ViewOffer) : Type 0 where
  pub own : All (λ o. slice_get o.path 1 ≡ Some (Agr o.agreement)) offers
  pub one_path : AllPairs (λ a b. a.agreement ≡ b.agreement → a.path ≡ b.path) offers

own_key : (o : ViewOffer) → is_own o ≡ true → slice_get o.path 1 ≡ Some (Agr o.agreement)
own_key o h = go (slice_get o.path 1) h
  where
    go : (found : Option LimitKey) → option_map_or (key_eq (Agr o.agreement)) found false ≡ true → found ≡ Some (Agr o.agreement)
    go None h = cc
    go (Some k) h = ap (λ k. Some k) (sym (key_eq-same (Agr o.agreement) k h))

pub even_paths : (offers : List ViewOffer) → AllPairs (λ a b. a.number < b.number) offers → path_differs offers ≡ None → ArePaths offers
even_paths offers ascending none = record {
  own = λ i d inside. own_key (get_or offers i d) (not-false (is_own (get_or offers i d)) (or_parts _ _ (even i d inside)).0);
  one_path = λ i j d before inside same.
      let a = get_or offers i d in
      let b = get_or offers j d in
      let quiet : has_other_path offers b ≡ false = (or_parts _ _ (even j d inside)).1 in
      let others : list_any (λ older. same_agreement older b && not (pointwise key_eq older.path b.path)) (take j offers) ≡ false =
      sym (older_is_before (λ older. same_agreement older b && not (pointwise key_eq older.path b.path)) offers j d inside (Later-from_AllPairs (λ (a b : ViewOffer). a.number < b.number) offers ascending)) ∙ quiet in
      let here : (same_agreement a b && not (pointwise key_eq a.path b.path)) ≡ false =
      ap (λ (e : ViewOffer). same_agreement e b && not (pointwise key_eq e.path b.path)) (sym (get_or-take j offers i d before))
      ∙ All-from_recursion (λ (e : ViewOffer). (same_agreement e b && not (pointwise key_eq e.path b.path)) ≡ false) (take j offers) (any_none (λ (e : ViewOffer). same_agreement e b && not (pointwise key_eq e.path b.path)) (take j offers) others) i d (omega (arith, length-take j offers)) in
      path_eq-same a.path b.path (not-false _ (rest_of (same_agreement a b) (not (pointwise key_eq a.path b.path)) (key_eq-from (Agr a.agreement) (Agr b.agreement) (ap (λ x. Agr x) same)) here));
}
  where
    some_none : (found : Option ViewOffer) → option_map (λ (o : ViewOffer). o.number) found ≡ None → found ≡ None
    some_none None h = refl
    some_none (Some o) h = cc

    even : All (λ o. is_odd offers o ≡ false) offers
    even = All-from_recursion (λ o. is_odd offers o ≡ false) offers (find_none (is_odd offers) offers (some_none (find (is_odd offers) offers) none))

    rest_of : (a b : Bool) → a ≡ true → (a && b) ≡ false → b ≡ false
    rest_of true b h e = e
    rest_of false b h e = cc

-- the rooms in order have these keys, and lots within the limit
pub in_order-keys : (keys : List LimitKey) (rooms : List Room) → map (λ (r : Room). r.key) (in_order keys rooms) ≡ keys
in_order-keys [] rooms = refl
in_order-keys (k ∷ keys) rooms = ap (λ l. k ∷ l) (in_order-keys keys rooms)

pub length-in_order : (keys : List LimitKey) (rooms : List Room) → length (in_order keys rooms) ≡ length keys
length-in_order keys rooms = length-map keys (λ k. let r : Room = record { key = k; lots = unwrap_or (lots_given rooms k) 0 } in r)

pub in_order-limits : (keys : List LimitKey) (rooms : List Room) → All (λ r. r.lots ≤ 1000000000) rooms → AllByRecursion (λ (r : Room). r.lots ≤ 1000000000) (in_order keys rooms)
in_order-limits [] rooms limits = tt
in_order-limits (k ∷ keys) rooms limits = (given rooms (recursion_from_All (λ (r : Room). r.lots ≤ 1000000000) rooms limits), in_order-limits keys rooms limits)
  where
    given : (rooms : List Room) → AllByRecursion (λ (r : Room). r.lots ≤ 1000000000) rooms → unwrap_or (lots_given rooms k) 0 ≤ 1000000000
    given [] h = omega arith
    given (r ∷ rooms) h = elim (cases_Bool (key_eq r.key k)) [ inl hit ↦ rw hit h.0 | inr miss ↦ rw miss (given rooms h.1) ]

-- the lots given by rooms with different keys are their own
own_lots : (rooms : List Room) → Later (λ a b. key_eq a b ≡ false) (map (λ (r : Room). r.key) rooms) → AllByRecursion (λ (r : Room). lots_given rooms r.key ≡ Some r.lots) rooms
own_lots [] apart = tt
own_lots (r ∷ rooms) apart = (rw (key_eq-refl r.key) refl, behind rooms apart.0 (own_lots rooms apart.1))
  where
    behind : (others : List Room) → AllByRecursion (λ k. key_eq r.key k ≡ false) (map (λ (r : Room). r.key) others) → AllByRecursion (λ (x : Room). lots_given rooms x.key ≡ Some x.lots) others
        → AllByRecursion (λ (x : Room). lots_given (r ∷ rooms) x.key ≡ Some x.lots) others
    behind [] other own = tt
    behind (x ∷ others) other own = (rw other.0 own.0, behind others other.1 own.1)

-- so they are in order already
pub in_order-own : (rooms : List Room) → Later (λ a b. key_eq a b ≡ false) (map (λ (r : Room). r.key) rooms) → in_order (map (λ (r : Room). r.key) rooms) rooms ≡ rooms
in_order-own rooms apart = each rooms (own_lots rooms apart)
  where
    each : (some : List Room) → AllByRecursion (λ (r : Room). lots_given rooms r.key ≡ Some r.lots) some → in_order (map (λ (r : Room). r.key) some) rooms ≡ some
    each [] own = refl
    each (r ∷ some) own =
        let rest = each some own.1 in
        λ i. (let it : Room = record { key = r.key; lots = unwrap_or (own.0 i) 0 } in it) ∷ rest i
