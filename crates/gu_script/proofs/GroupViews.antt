-- The view of a group after a legal history: it has the properties of every view, is nested, and its names and numbers can be written.
use Rattle.gu_script.proofs.Words.{◌≡◌, ℕ, suc, ◌+◌, ◌*◌, ◌<◌, ◌≤◌, ◌&&◌, ◌++◌, Bool, true, false, not, cond, List, [], ◌∷◌, length, map, filter, nat_lt, slice_get, Option, Some, None, unwrap_or, refl, sym, ap, ◌∙◌, subst, arith, inl, inr, ◌^◌, length-append, IsTrue, if◌then◌else◌, AllByRecursion, cons_option, filter_map, flat_map, list_all, option_and_then, option_map, length-map, All-from_recursion, recursion_from_All, Entry, Asked, Group, account_row, agreement_row, guarantor_of, is_group, IsNested, IsView, firsts, keys_of, ViewOffer, group_view, offers_shown, shown_at}
use Rattle.std.proofs.lemmas.Bool.{cases_Bool, ltb-false}
use Rattle.std.proofs.lemmas.Slice.Eq.{bytes_eq-Decides}
use Rattle.gu_terms.proofs.Lists.{along}
use Rattle.gu_terms.proofs.SameNames.{same_group-true}
use Rattle.gu_terms.proofs.SameValues.{both}
use Rattle.gu_terms.specs.LimitKeys.{key_eq, name_of_key}
use Rattle.gu_terms.specs.Names.{is_name}
use Rattle.gu_terms.specs.Numbers.{IsLots, IsOfferNo}
use Rattle.gu_terms.specs.Paths.{path_through}
use Rattle.gu_terms.specs.Same.{same_account, same_agreement, same_firm, same_group}
use Rattle.gu_terms.specs.declared.account.AccountId.{AccountId}
use Rattle.gu_terms.specs.declared.agreement.AgreementId.{AgreementId}
use Rattle.gu_terms.specs.declared.command.Command.TheVariants.{GiveUp, SetLimit}
use Rattle.gu_terms.specs.declared.firm.FirmId.{FirmId}
use Rattle.gu_terms.specs.declared.id.Id.{Id}
use Rattle.gu_terms.specs.declared.limit_key.LimitKey.{LimitKey}
use Rattle.gu_terms.specs.declared.lines.Line.{Line}
use Rattle.gu_terms.specs.declared.offer.Offer.{Offer as GivenUp}
use Rattle.gu_terms.specs.declared.refusal.Refusal.TheVariants.{TooHigh}
use Rattle.gu_terms.specs.declared.reply.Done.TheVariants.{LimitSet, Offered}
use Rattle.gu_terms.specs.declared.reply.Reply.TheVariants.{Accepted}
use Rattle.gu_ref.specs.Listed.{guarantor_for, has_group}
use Rattle.gu_ref.specs.Rules.{AreNamed, IsSound}
use Rattle.gu_ref.specs.Tables.{Tables}
use Rattle.gu_ref.specs.declared.accounts.Account.{Account}
use Rattle.gu_ref.specs.declared.agreements.Agreement.{Agreement}
use Rattle.gu_ref.specs.declared.guarantors.Guarantor.{Guarantor}
use Rattle.gu_limits.proofs.LimitLemmas.{found_passes}
use Rattle.gu_limits.specs.Paths.{path_of}
use Rattle.gu_offers.proofs.Listed.{all-append, numbers-within}
use Rattle.gu_offers.specs.Rows.{IsSound as IsSoundRow, Row, open_numbers}
use Rattle.gu_view.proofs.MakingLemmas.{even_paths, good_offers}
use Rattle.gu_view.specs.Making.{bad_offer}
use Rattle.gu_view.specs.declared.view.Room.{Room}
use Rattle.gu_rules.specs.Answer.{done_of, most_limit, state_of, tests_of}
use Rattle.gu_rules.specs.Legal.{IsLegal, MayBeEntered, MayFollow}
use Rattle.gu_rules.specs.Limits.{limit_of, limit_set_by, room_of}
use Rattle.gu_rules.specs.Offers.{lines_by, offers_of, standing_from, standing_of}
use Rattle.gu_rules.specs.Orderly.{IsBalanced}
use Rattle.gu_rules.specs.Versions.{version_of}
use Rattle.gu_rules.proofs.AgreementPaths.{goes_through}
use Rattle.gu_rules.proofs.AcceptedCommands.{is-accepted}
use Rattle.gu_rules.proofs.Growing.{last-given, last-kept}
use Rattle.gu_rules.proofs.KnownOnes.{all-found}
use Rattle.gu_rules.proofs.LegalLaws.{few_offers_made}
use Rattle.gu_rules.proofs.LegalOrder.{legal_ordered}
use Rattle.gu_rules.proofs.NestedViews.{is_nested}
use Rattle.gu_rules.proofs.Onward.{each_legal}
use Rattle.gu_rules.proofs.Passing.{none_stands}
use Rattle.gu_rules.proofs.VersionLemmas.{version-le}
use Rattle.gu_rules.proofs.ViewLemmas.{HasPath, have_paths, none_bad_offer, none_differs, offers-are, shows_offer}
use Rattle.gu_text.specs.WrittenSheets.{IsNamed}

-- ---- lots of offers

-- offers made from lines have the lines' lots
line_lots : (firm : FirmId) (report : Id) (group : Group) (lines : List Line) → AllByRecursion (λ (l : Line). IsLots l.lots) lines
    → AllByRecursion (λ (o : GivenUp). IsLots o.lots) (map {B = GivenUp} (λ (l : Line). record { firm = firm; report = report; group = group; account = l.account; lots = l.lots }) lines)
line_lots firm report group [] h = tt
line_lots firm report group (l ∷ lines) h = (h.0, line_lots firm report group lines h.1)

made_lots : (entry : Entry) → MayBeEntered entry → AllByRecursion (λ (o : GivenUp). IsLots o.lots) (lines_by entry)
made_lots (Asked (GiveUp it) (Accepted (Offered group first count))) h =
    line_lots it.firm it.report group it.lines (recursion_from_All (λ (l : Line). IsLots l.lots) it.lines h.lots)
made_lots entry h = tt

offers_lots : (history : List Entry) → ((k : ℕ) (entry : Entry) → slice_get history k ≡ Some entry → MayBeEntered entry)
    → AllByRecursion (λ (o : GivenUp). IsLots o.lots) (offers_of history)
offers_lots [] entered = tt
offers_lots (entry ∷ history) entered =
    all-append (λ (o : GivenUp). IsLots o.lots) (lines_by entry) (offers_of history) (made_lots entry (entered 0 entry refl))
    (offers_lots history (λ k later at. entered (suc k) later at))

-- so the offers after a history are sound
rows_sound : (history : List Entry) → IsBalanced history → (n : ℕ) (offers : List GivenUp) → AllByRecursion (λ (o : GivenUp). IsLots o.lots) offers
    → AllByRecursion (λ (r : Row). r.moved ≤ r.offer.lots) (standing_from history n offers) → AllByRecursion IsSoundRow (standing_from history n offers)
rows_sound history balanced n [] lots within = tt
rows_sound history balanced n (o ∷ offers) lots within = (record { lots = lots.0; moved = within.0; today = balanced.within n }, rows_sound history balanced (n + 1) offers lots.1 within.1)

-- there is a row for each offer
standing-length : (history : List Entry) (n : ℕ) (offers : List GivenUp) → length (standing_from history n offers) ≡ length offers
standing-length history n [] = refl
standing-length history n (o ∷ offers) = ap suc (standing-length history (n + 1) offers)

-- ---- limits

chosen : (b : Bool) (given lots : ℕ) → given ≤ 1000000000 → (if b then Some given else None) ≡ Some lots → lots ≤ 1000000000
chosen true given lots low h = let same : given ≡ lots = cc in omega (arith, low, same)
chosen false given lots low h = cc

-- a limit that is set has at most 1,000,000,000 lots
set_most : (reference : Tables) (before : List Entry) (entry : Entry) → length before < 1000000 → MayFollow reference before entry → (group : Group) (key : LimitKey) (lots : ℕ)
    → limit_set_by group key entry ≡ Some lots → lots ≤ 1000000000
set_most reference before (Asked (SetLimit it) (Accepted LimitSet)) room may group key lots e =
    let is = is-accepted reference before (SetLimit it) (Accepted LimitSet) room may refl in
    let state = state_of reference before in
    let command = SetLimit it in
    let low = ltb-false most_limit it.lots (none_stands (tests_of reference state command) (done_of reference state command) (done_of reference state command) is.accepted 1 (nat_lt most_limit it.lots) TooHigh refl) in
    chosen (same_group it.group group && key_eq it.key key) it.lots lots low e
set_most reference before entry room may group key lots e = cc

limit_more : (history : List Entry) (entry : Entry) (group : Group) (key : LimitKey) → ((lots : ℕ) → limit_set_by group key entry ≡ Some lots → lots ≤ 1000000000) → limit_of history group key ≤ 1000000000
    → limit_of (history ++ entry ∷ []) group key ≤ 1000000000
limit_more history entry group key most old = by (limit_set_by group key entry) refl
  where
    by : (set : Option ℕ) → limit_set_by group key entry ≡ set → limit_of (history ++ entry ∷ []) group key ≤ 1000000000
    by None e =
        let same : limit_of (history ++ entry ∷ []) group key ≡ limit_of history group key = ap (λ (o : Option ℕ). unwrap_or o 0) (last-kept (limit_set_by group key) history entry e) in omega (arith, same, old)
    by (Some lots) e =
        let same : limit_of (history ++ entry ∷ []) group key ≡ lots = ap (λ (o : Option ℕ). unwrap_or o 0) (last-given (limit_set_by group key) history entry lots e) in omega (arith, same, most lots e)

-- so each limit is at most that
limits_most : (reference : Tables) (history : List Entry) → IsLegal reference history → (group : Group) (key : LimitKey) → limit_of history group key ≤ 1000000000
limits_most reference history legal =
    each_legal reference (λ h. (group : Group) (key : LimitKey) → limit_of h group key ≤ 1000000000) (λ group key. omega arith)
    (λ before entry room may holds group key. limit_more before entry group key (set_most reference before entry room may group key) (holds group key)) history legal

-- ---- keys

-- first mentions of keys are no more than all mentions
filter-fewer : {X : Type 0} (p : X → Bool) (xs : List X) → length (filter p xs) ≤ length xs
filter-fewer p [] = omega arith
filter-fewer {X} p (x ∷ xs) = by (p x) (filter-fewer p xs)
  where
    by : (b : Bool) → length (filter p xs) ≤ length xs → length (cond b (x ∷ filter p xs) (filter p xs)) ≤ length (x ∷ xs)
    by true rest = omega (arith, rest)
    by false rest = omega (arith, rest)

firsts-fewer : (keys : List LimitKey) → length (firsts keys) ≤ length keys
firsts-fewer [] = omega arith
firsts-fewer (k ∷ keys) = omega (arith, filter-fewer (λ j. not (key_eq k j)) (firsts keys), firsts-fewer keys)

-- a path has at most five keys
few_keys : (executing : FirmId) (id : AgreementId) (account : AccountId) (carrying : FirmId) (guarantor : Option FirmId) → length (path_through executing id account carrying guarantor) ≤ 5
few_keys executing id account carrying None = omega arith
few_keys executing id account carrying (Some firm) = omega arith

path_short : (reference : Tables) (o : ViewOffer) → HasPath reference o → length o.path ≤ 5
path_short reference o has =
    let goes = goes_through reference o.agreement o.path has in
    let few = few_keys goes.executing o.agreement goes.account goes.carried.firm (guarantor_of reference goes.carried.firm) in omega (arith, few, ap length goes.is)

few_mentioned : (reference : Tables) (offers : List ViewOffer) → AllByRecursion (HasPath reference) offers → length (flat_map (λ (o : ViewOffer). o.path) offers) ≤ 5 * length offers
few_mentioned reference [] have = omega arith
few_mentioned reference (o ∷ offers) have =
    omega (arith, length-append o.path (flat_map (λ (p : ViewOffer). p.path) offers), path_short reference o have.0, few_mentioned reference offers have.1)

-- ---- rooms

module _ (reference : Tables) (history : List Entry) (group : Group) where
  abbrev room : LimitKey → Room
  room key = record { key = key; lots = room_of reference history group key }

  room_keys : (keys : List LimitKey) → map (λ (r : Room). r.key) (map room keys) ≡ keys
  room_keys [] = refl
  room_keys (k ∷ keys) = ap (λ (l : List LimitKey). k ∷ l) (room_keys keys)

  rooms_most : IsLegal reference history → (keys : List LimitKey) → AllByRecursion (λ (r : Room). r.lots ≤ 1000000000) (map room keys)
  rooms_most legal [] = tt
  rooms_most legal (k ∷ keys) = (omega (arith, limits_most reference history legal group k), rooms_most legal keys)

-- ---- names

-- a group of a reference has a valid name
group_named : (groups : List Group) (group : Group) → AllByRecursion (λ (g : Group). is_name g.name ≡ true) groups → has_group groups group ≡ true → is_name group.name ≡ true
group_named [] group h e = cc
group_named (g ∷ groups) group h e =
    elim (cases_Bool (same_group g group)) [
      | inl hit ↦ subst (λ (x : Group). is_name x.name ≡ true) (same_group-true g group hit) h.0
      | inr miss ↦ group_named groups group h.1 (sym (rw miss refl) ∙ e)
    ]

-- a path with valid names
through_named : (executing : FirmId) (id : AgreementId) (account : AccountId) (carrying : FirmId) (guarantor : Option FirmId)
    → is_name executing.name ≡ true → is_name id.name ≡ true → is_name account.name ≡ true → is_name carrying.name ≡ true → ((firm : FirmId) → guarantor ≡ Some firm → is_name firm.name ≡ true)
    → list_all (λ k. is_name (name_of_key k)) (path_through executing id account carrying guarantor) ≡ true
through_named executing id account carrying None e i a c g = rw (e, i, a, c) refl
through_named executing id account carrying (Some firm) e i a c g = rw (e, i, a, c, g firm refl) refl

module _ (reference : Tables) (names : AreNamed reference) where
  -- a guarantor has a valid name
  guarantor_named : (firm guarantor : FirmId) → guarantor_of reference firm ≡ Some guarantor → is_name guarantor.name ≡ true
  guarantor_named firm guarantor is = by (guarantor_for reference.guarantors firm) refl is
    where
      by : (found : Option Guarantor) → guarantor_for reference.guarantors firm ≡ found → option_map {U = FirmId} (λ g. g.guarantor) found ≡ Some guarantor → is_name guarantor.name ≡ true
      by None e h = cc
      by (Some g) e h =
          let same : g.guarantor ≡ guarantor = cc in
          subst (λ (f : FirmId). is_name f.name ≡ true) same
          (both (is_name g.guarantor.name) (is_name g.firm.name)
          (all-found (λ (x : Guarantor). (is_name x.guarantor.name && is_name x.firm.name) ≡ true) (λ (x : Guarantor). same_firm x.firm firm) reference.guarantors g
          (recursion_from_All (λ (x : Guarantor). (is_name x.guarantor.name && is_name x.firm.name) ≡ true) reference.guarantors names.guarantors) e)).0

  -- so have the keys on the path of an agreement
  path_named : (id : AgreementId) (path : List LimitKey) → path_of reference id ≡ Some path → list_all (λ k. is_name (name_of_key k)) path ≡ true
  path_named id path is = by (agreement_row reference id) refl is
    where
      of : (a : Agreement) → agreement_row reference id ≡ Some a → (carried : Option Account) → account_row reference a.account ≡ carried
          → option_map {U = List LimitKey} (λ c. path_through a.executing id a.account c.firm (guarantor_of reference c.firm)) carried ≡ Some path → list_all (λ k. is_name (name_of_key k)) path ≡ true
      of a found None e h = cc
      of a found (Some c) e h =
          let same : path_through a.executing id a.account c.firm (guarantor_of reference c.firm) ≡ path = cc in
          let mine = all-found (λ (x : Agreement). (is_name x.id.name && is_name x.executing.name && is_name x.account.name) ≡ true) (λ (x : Agreement). same_agreement x.id id) reference.agreements a
          (recursion_from_All (λ (x : Agreement). (is_name x.id.name && is_name x.executing.name && is_name x.account.name) ≡ true) reference.agreements names.agreements) found in
          let last = both (is_name a.id.name && is_name a.executing.name) (is_name a.account.name) mine in
          let first = both (is_name a.id.name) (is_name a.executing.name) last.0 in
          let own = (bytes_eq-Decides a.id.name id.name).0 (found_passes (λ (x : Agreement). same_agreement x.id id) reference.agreements a found) in
          let carrier = all-found (λ (x : Account). (is_name x.account.name && is_name x.firm.name) ≡ true) (λ (x : Account). same_account x.account a.account) reference.accounts c
          (recursion_from_All (λ (x : Account). (is_name x.account.name && is_name x.firm.name) ≡ true) reference.accounts names.accounts) e in
          let carrying = (both (is_name c.account.name) (is_name c.firm.name) carrier).1 in
          subst (λ (p : List LimitKey). list_all (λ k. is_name (name_of_key k)) p ≡ true) same
          (through_named a.executing id a.account c.firm (guarantor_of reference c.firm) first.1 (ap is_name (sym own) ∙ first.0) last.1 carrying (guarantor_named c.firm))

      by : (found : Option Agreement) → agreement_row reference id ≡ found
          → option_and_then {U = List LimitKey} (λ a. option_map {U = List LimitKey} (λ c. path_through a.executing id a.account c.firm (guarantor_of reference c.firm)) (account_row reference a.account)) found ≡ Some path
          → list_all (λ k. is_name (name_of_key k)) path ≡ true
      by None e h = cc
      by (Some a) e h = of a e (account_row reference a.account) refl h

-- ---- numbers

-- an offer that is shown has its own number
numbers_shown : (reference : Tables) → IsSound reference → (rows : List Row) (numbers : List ℕ) → AllByRecursion IsOfferNo numbers
    → AllByRecursion (λ (o : ViewOffer). IsOfferNo o.number) (filter_map (shown_at reference rows) numbers)
numbers_shown reference sound rows [] h = tt
numbers_shown reference sound rows (n ∷ numbers) h = by (shown_at reference rows n) refl (numbers_shown reference sound rows numbers h.1)
  where
    by : (given : Option ViewOffer) → shown_at reference rows n ≡ given → AllByRecursion (λ (o : ViewOffer). IsOfferNo o.number) (filter_map (shown_at reference rows) numbers)
        → AllByRecursion (λ (o : ViewOffer). IsOfferNo o.number) (cons_option given (filter_map (shown_at reference rows) numbers))
    by None e rest = rest
    by (Some o) e rest = (subst IsOfferNo (sym (shows_offer reference sound rows n o e).own) h.0, rest)

-- ---- the view

module _ (reference : Tables) (history : List Entry) (group : Group) (sound : IsSound reference) (legal : IsLegal reference history) where
  abbrev rows : List Row
  rows = standing_of history

  offers-given : offers_shown reference history group ≡ filter_map (shown_at reference (standing_of history)) (open_numbers (standing_of history) group)
  offers-given = offers-are reference (standing_of history) group

  paths_there : AllByRecursion (HasPath reference) (offers_shown reference history group)
  paths_there = subst (AllByRecursion (HasPath reference)) (sym offers-given) (have_paths reference sound rows (open_numbers rows group))

  none_bad : bad_offer (offers_shown reference history group) ≡ None
  none_bad =
      let ordered = legal_ordered reference history legal in
      ap bad_offer offers-given
      ∙ none_bad_offer reference sound rows group (rows_sound history ordered.order.balanced 1 (offers_of history) (offers_lots history legal.entered) ordered.order.within) ordered.shown

  pub is_view : IsView (group_view reference history group)
  is_view =
      let offers = offers_shown reference history group in
      let good = good_offers offers none_bad in
      let paths = even_paths offers good.ascending (none_differs reference offers paths_there) in
      record {
        few = good.few;
        ascending = good.ascending;
        lots = good.lots;
        own = paths.own;
        one_path = paths.one_path;
        rooms = room_keys reference history group (keys_of offers);
        few_rooms = omega (arith, length-map (keys_of offers) (room reference history group), firsts-fewer (flat_map (λ (o : ViewOffer). o.path) offers), few_mentioned reference offers paths_there, good.few);
        limits = All-from_recursion (λ (r : Room). r.lots ≤ 1000000000) (map (room reference history group) (keys_of offers)) (rooms_most reference history group legal (keys_of offers));
      }

  pub nested : IsNested (group_view reference history group)
  nested = is_nested reference (group_view reference history group) paths_there

  pub few_touches : version_of history group < 10 ^ 12
  few_touches = omega (arith, version-le history group, legal.within)

  pub named : is_group reference group ≡ true → IsNamed (group_view reference history group)
  named known = record {
    group = group_named reference.groups group (recursion_from_All (λ (g : Group). is_name g.name ≡ true) reference.groups sound.names.groups) known;
    numbers = All-from_recursion (λ (o : ViewOffer). IsOfferNo o.number) (offers_shown reference history group)
        (subst (AllByRecursion (λ (o : ViewOffer). IsOfferNo o.number)) (sym offers-given)
        (numbers_shown reference sound rows (open_numbers rows group)
        (along (λ m. (1 ≤ m) × (m < 1 + length rows)) IsOfferNo (open_numbers rows group)
        (λ m h. record { some = h.0; most = omega (arith, h.1, standing-length history 1 (offers_of history), few_offers_made reference history legal, legal.within) }) (numbers-within group 1 rows))));
    names = All-from_recursion (λ (o : ViewOffer). IsTrue (list_all (λ k. is_name (name_of_key k)) o.path)) (offers_shown reference history group)
        (along (HasPath reference) (λ (o : ViewOffer). list_all (λ k. is_name (name_of_key k)) o.path ≡ true) (offers_shown reference history group)
        (λ o has. path_named reference sound.names o.agreement o.path has) paths_there);
  }
