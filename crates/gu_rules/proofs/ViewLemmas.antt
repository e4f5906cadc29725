-- The open offers of a group make a view.
use Rattle.gu_rules.proofs.Words.{◌≡◌, ℕ, suc, ◌+◌, ◌-◌, ◌<◌, ◌≤◌, ◌==◌, ◌||◌, ◌&&◌, not, Bool, true, false, cond, nat_le, nat_lt, List, [], ◌∷◌, Option, Some, None, length, slice_get, refl, sym, ap, ◌∙◌, subst, arith, inl, inr, AllByRecursion, cons_option, filter_map, option_and_then, option_map, option_map_or, and_left, and_right, cases_Bool, le-ltb, ltb-true, or_from, nat_tests, key_eq-refl, along, none_any, none_found, key_eq, same_group, AgreementId, Group, LimitKey, agreement_between, IsSound as IsSoundReference, Tables, path_of, all-at, all-imply, numbers-ascend, numbers-within, Row, is_open_in, left_in, left_of, numbers_from, open_numbers, open_offer_at, row_at, ViewOffer, IsShown, path_after, offers_in, shown, shown_at}
use Rattle.std.specs.Cmp.Lexicographic.{pointwise}
use Rattle.gu_terms.specs.Numbers.{IsLots}
use Rattle.gu_terms.specs.declared.limit_key.LimitKey.TheVariants.{Agr}
use Rattle.gu_offers.proofs.Found.{row_at-place}
use Rattle.gu_offers.specs.Numbers.{IsAscending}
use Rattle.gu_offers.specs.Rows.{IsSound}
use Rattle.gu_view.specs.Making.{bad_offer, has_other_path, is_bad, is_own, path_differs, same_agreement}
use Rattle.gu_view.proofs.MakingLemmas.{agreement_eq-same, bad_after, bad_of_few, path_eq-refl}
use Rattle.gu_rules.proofs.AgreementPaths.{goes_through, path-there}

-- what is shown of open offers is shown for their numbers
pub shown-numbers : {X Y Z : Type 0} (f : X → Option Y) (g : Y → Option Z) (xs : List X) → filter_map g (filter_map f xs) ≡ filter_map (λ x. option_and_then g (f x)) xs
shown-numbers f g [] = refl
shown-numbers {Y = Y} {Z = Z} f g (x ∷ xs) = by (f x) (shown-numbers f g xs)
  where
    by : (given : Option Y) → filter_map g (filter_map f xs) ≡ filter_map (λ z. option_and_then g (f z)) xs
        → filter_map g (cons_option given (filter_map f xs)) ≡ cons_option (option_and_then {U = Z} g given) (filter_map (λ z. option_and_then g (f z)) xs)
    by None rest = rest
    by (Some y) rest = ap (cons_option (g y)) rest

pub offers-are : (reference : Tables) (rows : List Row) (group : Group) → offers_in reference rows group ≡ filter_map (shown_at reference rows) (open_numbers rows group)
offers-are reference rows group = shown-numbers (open_offer_at rows) (shown reference) (open_numbers rows group)

-- ---- each offer

-- what a view shows of the offer with a number: its number, what is left of it, and the path of its agreement
pub record ShowsOffer (reference : Tables) (rows : List Row) (number : ℕ) (o : ViewOffer) : Type 0 where
  pub own : o.number ≡ number
  pub lots : o.lots ≡ left_in rows number
  pub path : path_of reference o.agreement ≡ Some o.path

shows_row : (reference : Tables) (rows : List Row) (number : ℕ) (row : Row) (id : AgreementId) (path : List LimitKey) (o : ViewOffer) → row_at rows number ≡ Some row
    → agreement_between reference row.offer.firm row.offer.account ≡ Some id → path_of reference id ≡ Some path
    → Some (let it : ViewOffer = record { number = number; lots = left_of row; agreement = id; path = path_after reference row.offer } in it) ≡ Some o → ShowsOffer reference rows number o
shows_row reference rows number row id path o at between of is =
    let made : ViewOffer = record { number = number; lots = left_of row; agreement = id; path = path_after reference row.offer } in
    let same : made ≡ o = cc in
    let whole : path_after reference row.offer ≡ path = rw (between, of) refl in
    let mine : path_of reference id ≡ Some (path_after reference row.offer) = of ∙ ap (λ (p : List LimitKey). Some p) (sym whole) in
    record {
      own = ap (λ (x : ViewOffer). x.number) (sym same);
      lots = ap (λ (x : ViewOffer). x.lots) (sym same) ∙ sym (rw at refl);
      path = subst (λ (x : ViewOffer). path_of reference x.agreement ≡ Some x.path) same mine;
    }

pub shows_offer : (reference : Tables) → IsSoundReference reference → (rows : List Row) (number : ℕ) (o : ViewOffer) → shown_at reference rows number ≡ Some o → ShowsOffer reference rows number o
shows_offer reference sound rows number o is = by (row_at rows number) refl is
  where
    of : (row : Row) → row_at rows number ≡ Some row → (between : Option AgreementId) → agreement_between reference row.offer.firm row.offer.account ≡ between
        → option_map {U = ViewOffer} (λ id. record { number = number; lots = left_of row; agreement = id; path = path_after reference row.offer }) between ≡ Some o → ShowsOffer reference rows number o
    of row at None e h = cc
    of row at (Some id) e h =
        let path = path-there reference sound row.offer.firm row.offer.account id e in
        shows_row reference rows number row id path.0 o at e path.1 h

    by : (found : Option Row) → row_at rows number ≡ found
        → option_and_then (shown reference) (option_map (λ (r : Row). record { number = number; offer = r.offer; left = left_of r }) found) ≡ Some o → ShowsOffer reference rows number o
    by None e h = cc
    by (Some row) e h = of row e (agreement_between reference row.offer.firm row.offer.account) refl h

-- a property of each element given
pub each-given : {X Y : Type 0} (P : Y → Type 0) (f : X → Option Y) (xs : List X) → ((x : X) (y : Y) → f x ≡ Some y → P y) → AllByRecursion P (filter_map f xs)
each-given P f [] h = tt
each-given {Y = Y} P f (x ∷ xs) h = by (f x) refl (each-given P f xs h)
  where
    by : (given : Option Y) → f x ≡ given → AllByRecursion P (filter_map f xs) → AllByRecursion P (cons_option given (filter_map f xs))
    by None e rest = rest
    by (Some y) e rest = (h x y e, rest)

pub few-given : {X Y : Type 0} (f : X → Option Y) (xs : List X) → length (filter_map f xs) ≤ length xs
few-given f [] = omega arith
few-given {Y = Y} f (x ∷ xs) = by (f x) (few-given f xs)
  where
    by : (given : Option Y) → length (filter_map f xs) ≤ length xs → length (cons_option given (filter_map f xs)) ≤ length (x ∷ xs)
    by None rest = omega (arith, rest)
    by (Some y) rest = omega (arith, rest)

-- ---- numbers and lots

-- a property of the open offers at their indexes is one of their numbers
each_open : (P : ℕ → Type 0) (group : Group) (n : ℕ) (rows : List Row) → ((place : ℕ) (row : Row) → slice_get rows place ≡ Some row → is_open_in group row ≡ true → P (n + place))
    → AllByRecursion P (numbers_from n rows group)
each_open P group n [] h = tt
each_open P group n (first ∷ rows) h =
    by (is_open_in group first) refl (each_open P group (n + 1) rows (λ place row at open_in. let e : n + suc place ≡ n + 1 + place = omega arith in subst P e (h (suc place) row at open_in)))
  where
    by : (b : Bool) → is_open_in group first ≡ b → AllByRecursion P (numbers_from (n + 1) rows group)
        → AllByRecursion P (cond b (n ∷ numbers_from (n + 1) rows group) (numbers_from (n + 1) rows group))
    by true e rest = let here : n + 0 ≡ n = omega arith in (subst P here (h 0 first refl e), rest)
    by false e rest = rest

-- an open offer has lots left, and no more than it has
open-lots : (group : Group) (row : Row) → IsSound row → is_open_in group row ≡ true → IsLots (left_of row)
open-lots group row sound h =
    let some : 0 < left_of row = ltb-true 0 (left_of row) (second (same_group row.offer.group group) (nat_lt 0 (left_of row)) h) in
    record { some = omega (arith, some); most = omega (arith, less row.is_shut, sound.lots.most) }
  where
    second : (a b : Bool) → (a && b) ≡ true → b ≡ true
    second true b e = e
    second false b e = cc

    less : (shut : Bool) → cond shut 0 (row.offer.lots - row.moved) ≤ row.offer.lots
    less true = omega arith
    less false = omega arith

lots_left : (rows : List Row) (group : Group) → AllByRecursion IsSound rows → AllByRecursion (λ n. IsLots (left_in rows n)) (open_numbers rows group)
lots_left rows group sound =
    each_open (λ n. IsLots (left_in rows n)) group 1 rows
    (λ place row at open_in.
    let e : place + 1 ≡ 1 + place = omega arith in
    let left : left_in rows (1 + place) ≡ left_of row = ap (λ (o : Option Row). option_map_or left_of o 0) (row_at-place rows place (1 + place) e ∙ at) in
    subst IsLots (sym left) (open-lots group row (all-at IsSound rows place row sound at) open_in))

-- ascending numbers with valid lots show no bad offer
good_offer : (before : ℕ) (o : ViewOffer) → before < o.number → IsLots o.lots → is_bad before o ≡ false
good_offer before o above lots = or_from (nat_le o.number before) (o.lots == 0 || nat_lt 1000000 o.lots) (not_below o.number before above) (or_from (o.lots == 0) (nat_lt 1000000 o.lots) (some o.lots lots.some) (le-ltb 1000000 o.lots lots.most))
  where
    not_below : (a b : ℕ) → b < a → nat_le a b ≡ false
    not_below a b h = grind (arith, nat_tests)

    some : (n : ℕ) → 1 ≤ n → (n == 0) ≡ false
    some n h = grind (arith, nat_tests)

none_bad : (reference : Tables) → IsSoundReference reference → (rows : List Row) (before : ℕ) (numbers : List ℕ) → AllByRecursion (λ n. before < n) numbers → IsAscending numbers
    → AllByRecursion (λ n. IsLots (left_in rows n)) numbers → bad_after before (filter_map (shown_at reference rows) numbers) ≡ None
none_bad reference sound rows before [] above up lots = refl
none_bad reference sound rows before (n ∷ numbers) above up lots =
    by (shown_at reference rows n) refl (none_bad reference sound rows before numbers above.1 up.1 lots.1) (none_bad reference sound rows n numbers up.0 up.1 lots.1)
  where
    by : (given : Option ViewOffer) → shown_at reference rows n ≡ given → bad_after before (filter_map (shown_at reference rows) numbers) ≡ None
        → bad_after n (filter_map (shown_at reference rows) numbers) ≡ None → bad_after before (cons_option given (filter_map (shown_at reference rows) numbers)) ≡ None
    by None e rest behind = rest
    by (Some o) e rest behind =
        let shows = shows_offer reference sound rows n o e in
        let good = good_offer before o (omega (arith, shows.own, above.0)) (subst IsLots (sym shows.lots) lots.0) in
        rw good (subst (λ (m : ℕ). bad_after m (filter_map (shown_at reference rows) numbers) ≡ None) (sym shows.own) behind)

-- ---- paths

-- an offer has the path of its agreement
abbrev pub HasPath : Tables → ViewOffer → Type 0
HasPath reference o = path_of reference o.agreement ≡ Some o.path

pub have_paths : (reference : Tables) → IsSoundReference reference → (rows : List Row) (numbers : List ℕ) → AllByRecursion (HasPath reference) (filter_map (shown_at reference rows) numbers)
have_paths reference sound rows numbers = each-given (HasPath reference) (shown_at reference rows) numbers (λ n o e. (shows_offer reference sound rows n o e).path)

-- its own agreement is the second key
own-path : (reference : Tables) (o : ViewOffer) → HasPath reference o → is_own o ≡ true
own-path reference o has =
    let goes = goes_through reference o.agreement o.path has in
    ap (λ (path : List LimitKey). option_map_or (key_eq (Agr o.agreement)) (slice_get path 1) false) goes.is ∙ key_eq-refl (Agr o.agreement)

-- offers under one agreement have one path
one-path : (reference : Tables) (a b : ViewOffer) → HasPath reference a → HasPath reference b → (same_agreement a b && not (pointwise key_eq a.path b.path)) ≡ false
one-path reference a b mine theirs =
    elim (cases_Bool (same_agreement a b)) [
      | inl same ↦
          let one : a.agreement ≡ b.agreement = agreement_eq-same a.agreement b.agreement same in
          let both : Some a.path ≡ Some b.path = sym mine ∙ ap (path_of reference) one ∙ theirs in
          let path : a.path ≡ b.path = cc in
          and_right (same_agreement a b) (not (pointwise key_eq a.path b.path)) (ap (λ (p : List LimitKey). not (pointwise key_eq p b.path)) path ∙ ap not (path_eq-refl b.path))
      | inr apart ↦ and_left (same_agreement a b) (not (pointwise key_eq a.path b.path)) apart
    ]

pub none_differs : (reference : Tables) (offers : List ViewOffer) → AllByRecursion (HasPath reference) offers → path_differs offers ≡ None
none_differs reference offers have =
    ap (option_map (λ (o : ViewOffer). o.number))
    (none_found (λ (o : ViewOffer). not (is_own o) || has_other_path offers o) offers
    (along (HasPath reference) (λ (o : ViewOffer). (not (is_own o) || has_other_path offers o) ≡ false) offers
    (λ o mine. or_from (not (is_own o)) (has_other_path offers o) (ap not (own-path reference o mine))
    (none_any (λ older. nat_lt older.number o.number && (same_agreement older o && not (pointwise key_eq older.path o.path))) offers
    (along (HasPath reference) (λ (older : ViewOffer). (nat_lt older.number o.number && (same_agreement older o && not (pointwise key_eq older.path o.path))) ≡ false) offers
    (λ older theirs. and_right (nat_lt older.number o.number) (same_agreement older o && not (pointwise key_eq older.path o.path)) (one-path reference older o theirs mine)) have)))
    have))

-- ---- rooms

-- none of a group's open offers is bad
pub none_bad_offer : (reference : Tables) → IsSoundReference reference → (rows : List Row) (group : Group) → AllByRecursion IsSound rows → IsShown reference rows
    → bad_offer (filter_map (shown_at reference rows) (open_numbers rows group)) ≡ None
none_bad_offer reference sound rows group each shown =
    sym (bad_of_few (filter_map (shown_at reference rows) (open_numbers rows group)) few) ∙ ap (option_map (λ (p : ℕ × ViewOffer). p.1.number)) good
  where
    few : length (filter_map (shown_at reference rows) (open_numbers rows group)) ≤ 4096
    few = omega (arith, few-given (shown_at reference rows) (open_numbers rows group), shown.few group)

    good : bad_after 0 (filter_map (shown_at reference rows) (open_numbers rows group)) ≡ None
    good =
        none_bad reference sound rows 0 (open_numbers rows group)
        (all-imply (λ m. (1 ≤ m) × (m < 1 + length rows)) (λ m. 0 < m) (λ m h. omega arith) (open_numbers rows group) (numbers-within group 1 rows))
        (numbers-ascend group 1 rows) (lots_left rows group each)
