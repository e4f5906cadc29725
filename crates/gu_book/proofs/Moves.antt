-- The takes of a sweep, moved one after another.
use Rattle.gu_book.proofs.Words.{◌≡◌, ℕ, suc, ◌+◌, ◌-◌, ◌<◌, ◌≤◌, ◌++◌, false, List, [], ◌∷◌, length, map, drop, take, get_or, slice_get, slice_index_or, Option, Some, None, IfSome, refl, sym, ap, ◌∙◌, arith, append-nil, append_assoc, subst, All, AllByRecursion, option_map, option_map_or, drop_more, map-append, take_more, All-from_recursion, sum_by-cons, none-some, along2, every, same_group-own, AccountId, Entry, SweepEntry, Group, LimitKey, Offer, Report, Take, Tables, Charges, MayCharge, lots_under, GroupLimit, number_in, room_in, report_by, terms_of, Terms, changed, taken, Row, left_in, left_of, row_at, KeepsNumbers, lots_at, lots_in, offer_of, ViewOffer as ShownOffer, path_after, standing_of, part, parts, path_after-once, IsThere, open-there, row_at-other, in_order, part-takes, IsKept, IsFound, HoldsMoved, SameAnswers, UsesMore, AreReady, ClaimsLots, HasRows, IsHeld, IsReady, IsShownOpen, MayClaim, MayMove, MayTake, MovesAll, MovesOne, lots_used, taken_by, Totals, Transfer}
use Rattle.gu_limits.specs.Limits.{is_of}
use Rattle.gu_limits.proofs.LimitPlaces.{position-map}
use Rattle.gu_rules.proofs.OrderedReports.{all-push}
use Rattle.gu_book.specs.declared.deed.Moved.{Moved}
use Rattle.gu_book.proofs.Accepting.{key_at, lots-taken, seen-is, taken-there}
use Rattle.gu_book.proofs.Beginning.{still-kept}

-- ---- look-ups

-- an offer that is found is in a row
pub seen-row : (totals : Totals) (n : ℕ) (offer : Offer) → Some offer ≡ option_map (λ (r : Row). r.offer) (row_at totals.offers n) → (row : Row) × (row_at totals.offers n ≡ Some row) × (row.offer ≡ offer)
seen-row totals n offer seen = by (row_at totals.offers n) refl seen
  where
    by : (found : Option Row) → row_at totals.offers n ≡ found → Some offer ≡ option_map (λ (r : Row). r.offer) found → (row : Row) × (row_at totals.offers n ≡ Some row) × (row.offer ≡ offer)
    by None e h = cc
    by (Some row) e h = let same : row.offer ≡ offer = cc in (row, e, same)

-- an open offer is found, with its report
pub found-there : (reference : Tables) (history : List Entry) (totals : Totals) (n : ℕ) → IsKept reference history totals → 0 < left_in totals.offers n
    → (row : Row) × (report : Report) × IsThere history n row report × (row.is_shut ≡ false) × (row.moved + left_in totals.offers n ≤ row.offer.lots)
found-there reference history totals n kept open_ =
    let same = ap (λ (rs : List Row). left_in rs n) kept.beside.offers in
    let it = open-there history n (in_order history kept.orderly) (omega (arith, open_, same)) in
    (it.0, it.1, it.2, it.3, omega (arith, it.4, same))

-- ---- an offer that a view shows

module _ (reference : Tables) (totals : Totals) (offers : List ShownOffer) (one_take : Take) (open_ : IsShownOpen reference totals offers one_take) where
  there-now : (row : Row) × (row_at totals.offers one_take.offer ≡ Some row)
  there-now =
      let f = found-there reference open_.history totals one_take.offer open_.kept open_.still_open in
      (f.0, ap (λ (rs : List Row). row_at rs one_take.offer) open_.kept.beside.offers ∙ f.2.at)

  -- it is found
  pub is-there : None ≡ option_map (λ (r : Row). r.offer) (row_at totals.offers one_take.offer) → ⊥
  is-there none = none-some there-now.0.offer (none ∙ ap (λ (o : Option Row). option_map (λ (r : Row). r.offer) o) there-now.1)

  -- and so is the view's
  pub is-shown : None ≡ offer_of offers one_take.offer → ⊥
  is-shown none =
      let has = subst (λ (found : Option Row). IfSome found (λ (row : Row). option_map (λ (o : ShownOffer). o.path) (offer_of offers one_take.offer) ≡ Some (path_after reference row.offer))) there-now.1 open_.path in
      none-some (path_after reference there-now.0.offer) (ap (option_map (λ (o : ShownOffer). o.path)) none ∙ has)

  module _ (offer : Offer) (seen : Some offer ≡ option_map (λ (r : Row). r.offer) (row_at totals.offers one_take.offer)) where
    in-row : (row : Row) × (row_at totals.offers one_take.offer ≡ Some row) × (row.offer ≡ offer)
    in-row = seen-row totals one_take.offer offer seen

    -- the view has the path that applies to it
    pub shown-path : (shown : ShownOffer) → Some shown ≡ offer_of offers one_take.offer → shown.path ≡ path_after reference offer
    shown-path shown found =
        let has =
        subst (λ (found : Option Row). IfSome found (λ (row : Row). option_map (λ (o : ShownOffer). o.path) (offer_of offers one_take.offer) ≡ Some (path_after reference row.offer))) in-row.1 open_.path
        ∙ ap (λ (o : Offer). Some (path_after reference o)) in-row.2 in
        let both : Some shown.path ≡ Some (path_after reference offer) = ap (option_map (λ (o : ShownOffer). o.path)) found ∙ has in cc

-- while no answer changes, a view still shows the take at an index
pub shown-at : (reference : Tables) (old new : Totals) (offers : List ShownOffer) (takes : List Take) (i : ℕ) {take_ : Take} → i < length takes → take_ ≡ get_or takes i take_ → SameAnswers old new
    → AllByRecursion (IsShownOpen reference old offers) takes → IsShownOpen reference new offers take_
shown-at reference old new offers takes i {take_} within is same all =
    let open_ = subst (IsShownOpen reference old offers) (sym is) (All-from_recursion (IsShownOpen reference old offers) takes all i take_ within) in
    record {
      history = open_.history;
      kept = still-kept reference open_.history old new open_.kept same;
      still_open = omega (arith, open_.still_open, ap (λ (rs : List Row). left_in rs take_.offer) same.offers);
      path = subst (λ (rows : List Row). IfSome (row_at rows take_.offer) (λ (row : Row). option_map (λ (o : ShownOffer). o.path) (offer_of offers take_.offer) ≡ Some (path_after reference row.offer))) (sym same.offers) open_.path;
    }

-- ---- what was looked up

-- nothing that was looked up of an offer changes: its row, the reports, and the numbers of limits and of rows
pub record Keeps (old new : Totals) (n : ℕ) : Type 0 where
  pub row : row_at new.offers n ≡ row_at old.offers n
  pub trades : new.trades ≡ old.trades
  pub numbers : (group : Group) (key : LimitKey) → number_in new.limits group key ≡ number_in old.limits group key
  pub stay : KeepsNumbers old.positions new.positions

-- so it is still what was found
pub still-found : (reference : Tables) (old new : Totals) (m : Moved) → Keeps old new m.number → IsFound reference old m → IsFound reference new m
still-found reference old new m keeps f = record {
  offer = f.offer;
  seen = record {
    shown = f.seen.shown ∙ ap (λ (o : Option Row). option_map (λ (r : Row). r.offer) o) (sym keeps.row);
    found = f.seen.found ∙ ap (λ (rs : List Report). option_map terms_of (report_by rs f.offer.firm f.offer.report)) (sym keeps.trades);
  };
  group_is = f.group_is;
  account_is = f.account_is;
  under = record {
    few = f.under.few;
    numbers = λ place inside. f.under.numbers place inside
        ∙ ap (λ (n : LimitKey → ℕ). option_map_or n (slice_get (path_after reference f.offer) place) 0) (λ i key. sym (keeps.numbers m.group key) i);
  };
}

-- and a transfer that was ready is ready
pub still-ready : (reference : Tables) (old new : Totals) (t : Transfer) → Keeps old new t.moved.number → IsReady reference old t → IsReady reference new t
still-ready reference old new t keeps ready =
    let m = t.moved in
    record {
      found = still-found reference old new m keeps ready.found;
      rows = record { from = keeps.stay m.report.account m.report.symbol t.rows.0 ready.rows.from; to = keeps.stay m.account m.report.symbol t.rows.1 ready.rows.to };
    }

pub all-ready : (reference : Tables) (old new : Totals) (ts : List Transfer) → AllByRecursion (λ (t : Transfer). Keeps old new t.moved.number) ts
    → AllByRecursion (IsReady reference old) ts → AllByRecursion (IsReady reference new) ts
all-ready reference old new ts keeps ready =
    along2 (λ (t : Transfer). Keeps old new t.moved.number) (IsReady reference old) (IsReady reference new) ts (λ t keep is. still-ready reference old new t keep is) keeps ready

-- no answer changes where rows are made
pub keeps-all : (old new : Totals) (n : ℕ) → SameAnswers old new → KeepsNumbers old.positions new.positions → Keeps old new n
keeps-all old new n same stay = record {
  row = ap (λ (rs : List Row). row_at rs n) same.offers;
  trades = same.entries.trades;
  numbers = λ group key. ap (λ (ls : List GroupLimit). number_in ls group key) same.limits;
  stay = stay;
}

-- a transfer for one more take
pub ready-next : (reference : Tables) (old new : Totals) (takes : List Take) (i : ℕ) {take_ : Take} (ts : List Transfer) (t : Transfer) → i < length takes → take_ ≡ get_or takes i take_
    → SameAnswers old new → KeepsNumbers old.positions new.positions → AreReady reference old (take i takes) ts → (taken_by t ≡ take_) × IsFound reference old t.moved
    → HasRows new.positions t.moved t.rows → AreReady reference new (take (i + 1) takes) (ts ++ t ∷ [])
ready-next reference old new takes i {take_} ts t within is same stay before found rows = record {
  each = all-push (IsReady reference new) ts t
      (all-ready reference old new ts (every (λ (t : Transfer). Keeps old new t.moved.number) ts (λ t. keeps-all old new t.moved.number same stay)) before.each)
      (record { found = still-found reference old new t.moved (keeps-all old new t.moved.number same stay) found.1; rows = rows });
  takes_are = map-append taken_by ts (t ∷ []) ∙ ap (λ (ms : List Take). ms ++ taken_by t ∷ []) before.takes_are ∙ ap (λ (m : Take). take i takes ++ m ∷ []) (found.0 ∙ is) ∙ sym (take_more takes i take_ within);
}

-- no answer changes in two steps
pub same-on : (one two three : Totals) → SameAnswers one two → SameAnswers two three → SameAnswers one three
same-on one two three a b = record {
  entries = record { today = b.entries.today ∙ a.entries.today; trades = b.entries.trades ∙ a.entries.trades; give_ups = b.entries.give_ups ∙ a.entries.give_ups };
  offers = b.offers ∙ a.offers;
  limits = b.limits ∙ a.limits;
  positions = record {
    lots = λ side account symbol. b.positions.lots side account symbol ∙ a.positions.lots side account symbol;
    sums = λ side symbol. b.positions.sums side symbol ∙ a.positions.sums side symbol;
    interest = λ symbol. b.positions.interest symbol ∙ a.positions.interest symbol;
  };
}

pub same-self : (totals : Totals) → SameAnswers totals totals
same-self totals = record {
  entries = record { today = refl; trades = refl; give_ups = refl };
  offers = refl;
  limits = refl;
  positions = record { lots = λ side account symbol. refl; sums = λ side symbol. refl; interest = λ symbol. refl };
}

-- ---- lots that are claimed

-- what may be claimed may be claimed once rows are made
pub still-claimable : (old mid : Totals) (moved : Moved) → SameAnswers old mid → MayClaim old moved → MayClaim mid moved
still-claimable old mid moved same may = record {
  keys = may.keys;
  room = subst (λ (ls : List GroupLimit). MayCharge ls moved.group may.keys moved.lots moved.limits) (sym same.limits) may.room;
  left = omega (arith, may.left, ap (λ (rs : List Row). left_in rs moved.number) same.offers);
  there = omega (arith, may.there, same.positions.lots moved.report.side moved.report.account moved.report.symbol);
}

-- and the claim is one of the totals before
pub claims-after : (old mid new : Totals) (moved : Moved) → SameAnswers old mid → KeepsNumbers old.positions mid.positions → ClaimsLots mid new moved → ClaimsLots old new moved
claims-after old mid new moved same stay claims = record {
  entries = record { today = claims.entries.today ∙ same.entries.today; trades = claims.entries.trades ∙ same.entries.trades; give_ups = claims.entries.give_ups ∙ same.entries.give_ups };
  offers = claims.offers ∙ ap (λ (rs : List Row). changed rs moved.number (taken moved.lots)) same.offers;
  limits = subst (λ (ls : List GroupLimit). (keys : List LimitKey) → MayCharge ls moved.group keys moved.lots moved.limits → Charges ls new.limits moved.group keys moved.lots) same.limits claims.limits;
  positions = record {
    lots = λ side account symbol. claims.positions.lots side account symbol
        ∙ ap (λ (n : ℕ). n - lots_at moved.report.side moved.report.account moved.report.symbol moved.lots side account symbol + lots_at moved.report.side moved.account moved.report.symbol moved.lots side account symbol)
        (same.positions.lots side account symbol);
    sums = λ side symbol. claims.positions.sums side symbol ∙ same.positions.sums side symbol;
  };
  stay = λ account symbol row is. claims.stay account symbol row (stay account symbol row is);
}

-- ---- one take

module _ (reference : Tables) (totals : Totals) (t : Transfer) (ts : List Transfer) (first : MayMove reference totals (t ∷ ts)) where
  abbrev moved : Moved
  moved = t.moved

  abbrev found : IsFound reference totals moved
  found = first.ready.0.found

  abbrev offer : Offer
  offer = found.offer

  abbrev may : MayTake reference totals (taken_by t ∷ map taken_by ts)
  may = first.may

  there : (row : Row) × (report : Report) × IsThere may.history moved.number row report × (row.is_shut ≡ false) × (row.moved + left_in totals.offers moved.number ≤ row.offer.lots)
  there = found-there reference may.history totals moved.number may.kept may.still_open.0

  -- its room suffices
  room : All (λ key. moved.lots ≤ room_in totals.limits moved.group key) (path_after reference offer)
  room k d within =
      let one = seen-row totals moved.number offer found.seen.shown in
      let key = slice_index_or (path_after reference offer) k d in
      let uses : option_map_or (λ (r : Row). lots_under r.offer.group (path_after reference r.offer) moved.lots offer.group key) (row_at totals.offers moved.number) 0
      ≡ lots_under offer.group (path_after reference offer) moved.lots offer.group key =
      rw one.1 (ap (λ (o : Offer). lots_under o.group (path_after reference o) moved.lots offer.group key) one.2) in
      let mine : lots_under offer.group (path_after reference offer) moved.lots offer.group key ≡ moved.lots = rw (same_group-own offer.group, key_at (path_after reference offer) k d within) refl in
      subst (λ (group : Group). moved.lots ≤ room_in totals.limits group key) (sym found.group_is)
      (omega (
        arith,
        may.room offer.group key,
        sum_by-cons (λ (t : Take). option_map_or (λ (r : Row). lots_under r.offer.group (path_after reference r.offer) t.lots offer.group key) (row_at totals.offers t.offer) 0) (taken_by t) (map taken_by ts),
        uses,
        mine,
      ))

  charge : MayCharge totals.limits moved.group (path_after reference offer) moved.lots moved.limits
  charge = record { under = found.under; once = path_after-once reference offer; room = room }

  -- its lots are held
  held : IsHeld totals.positions moved moved.report.account
  held =
      let same = (seen-is reference may.history totals moved.number offer moved.report there.1 there.0 may.kept.beside found.seen there.2).1 in
      let less : there.0.moved + moved.lots ≤ there.0.offer.lots = omega (arith, there.4, may.left.0) in
      subst (λ (r : Terms). moved.lots ≤ lots_in totals.positions r.side r.account r.symbol) (sym same)
      (taken-there reference may.history totals moved.number moved.lots there.0 there.1 may.kept there.2 there.3 less)

  -- so they may be claimed
  pub may-claim : MayClaim totals moved
  may-claim = record { keys = path_after reference offer; room = charge; left = may.left.0; there = held }

  -- and its take is then moved
  pub moves-one : (new : Totals) → ClaimsLots totals new moved → MovesOne reference totals new (taken_by t)
  moves-one new carried =
      let one = seen-row totals moved.number offer found.seen.shown in
      let uses : UsesMore reference totals.limits new.limits offer moved.lots =
      subst (λ (group : Group). Charges totals.limits new.limits group (path_after reference offer) moved.lots) found.group_is (carried.limits (path_after reference offer) charge) in
      let holds = subst (λ (account : AccountId). HoldsMoved totals.positions new.positions moved.report moved.report.account account moved.lots) found.account_is carried.positions in
      record {
        entries = carried.entries;
        offers = carried.offers;
        limits = λ row at. let it : row ≡ one.0 = let both : Some row ≡ Some one.0 = sym at ∙ one.1 in cc in
            subst (λ (o : Offer). UsesMore reference totals.limits new.limits o moved.lots) (sym one.2 ∙ ap (λ (r : Row). r.offer) (sym it)) uses;
        stay = carried.stay;
        sums = carried.positions.sums;
        kept = λ history sweep kept.
            let f = found-there reference history totals moved.number kept may.still_open.0 in
            lots-taken reference history totals new (part sweep (taken_by t)) moved.number moved.lots offer moved.report f.1 f.0 found.seen (part-takes sweep (taken_by t)) carried.entries carried.offers uses holds kept f.2 f.3
            (omega (arith, f.4, may.left.0));
      }

-- ---- one take after another

module _ (reference : Tables) (old new : Totals) (one_take : Take) (moves : MovesOne reference old new one_take) where
  -- so do the later ones
  later-row : (m : ℕ) → one_take.offer < m → row_at new.offers m ≡ row_at old.offers m
  later-row m later = ap (λ (rs : List Row). row_at rs m) moves.offers ∙ row_at-other old.offers one_take.offer m (taken one_take.lots) (λ same. absurd (omega (arith, later, same)))

  later-left : (m : ℕ) → one_take.offer < m → left_in new.offers m ≡ left_in old.offers m
  later-left m later = ap (λ (o : Option Row). option_map_or left_of o 0) (later-row m later)

  -- and later takes use what they would have used
  later-used : (takes : List Take) → AllByRecursion (λ (t : Take). one_take.offer < t.offer) takes → (group : Group) (key : LimitKey) → lots_used reference new.offers takes group key ≡ lots_used reference old.offers takes group key
  later-used [] later group key = refl
  later-used (t ∷ takes) later group key =
      let uses : List Row → Take → ℕ = λ rows t. option_map_or (λ (r : Row). lots_under r.offer.group (path_after reference r.offer) t.lots group key) (row_at rows t.offer) 0 in
      let mine : uses new.offers t ≡ uses old.offers t = ap (λ (o : Option Row). option_map_or (λ (r : Row). lots_under r.offer.group (path_after reference r.offer) t.lots group key) o 0) (later-row t.offer later.0) in
      omega (arith, sum_by-cons (uses new.offers) t takes, sum_by-cons (uses old.offers) t takes, mine, later-used takes later.1 group key)

  -- nothing that was looked up of later offers changes
  keep-later : (row : Row) → UsesMore reference old.limits new.limits row.offer one_take.lots → (ts : List Transfer) → AllByRecursion (λ (t : Take). one_take.offer < t.offer) (map taken_by ts)
      → AllByRecursion (λ (t : Transfer). Keeps old new t.moved.number) ts
  keep-later row limits [] later = tt
  keep-later row limits (t ∷ ts) later = (
    record {
      row = later-row t.moved.number later.0;
      trades = moves.entries.trades;
      numbers = λ group key.
          ap (λ (ls : List GroupLimit). number_in ls group key) limits.rows
          ∙ ap (λ (place : Option ℕ). option_map_or suc place 0) (position-map (is_of group key) (is_of group key) _ (λ l. refl) old.limits);
      stay = moves.stay;
    },
    keep-later row limits ts later.1,
  )

  -- the row of the offer
  there-row : {takes : List Take} (may : MayTake reference old takes) (row : Row) → row_at (standing_of may.history) one_take.offer ≡ Some row → row_at old.offers one_take.offer ≡ Some row
  there-row may row at = ap (λ (rs : List Row). row_at rs one_take.offer) may.kept.beside.offers ∙ at

  -- the room left
  room-left : (takes : List Take) (row : Row) → row_at old.offers one_take.offer ≡ Some row → AllByRecursion (λ (t : Take). one_take.offer < t.offer) takes
      → ((group : Group) (key : LimitKey) → lots_used reference old.offers (one_take ∷ takes) group key ≤ room_in old.limits group key)
      → (group : Group) (key : LimitKey) → lots_used reference new.offers takes group key ≤ room_in new.limits group key
  room-left takes row at later room group key =
      let uses : Take → ℕ = λ t. option_map_or (λ (r : Row). lots_under r.offer.group (path_after reference r.offer) t.lots group key) (row_at old.offers t.offer) 0 in
      let mine : uses one_take ≡ lots_under row.offer.group (path_after reference row.offer) one_take.lots group key = rw at refl in
      let limits = moves.limits row at in
      omega (arith, room group key, sum_by-cons uses one_take takes, mine, later-used takes later group key, limits.limits.lots group key, limits.uses group key)

  -- the later takes may then be moved
  take-rest : (takes : List Take) → MayTake reference old (one_take ∷ takes) → MayTake reference new takes
  take-rest takes may =
      let later = may.ascending.0 in
      let f = found-there reference may.history old one_take.offer may.kept may.still_open.0 in
      let sweep : SweepEntry = record { group = f.0.offer.group; takes = []; cut = record { keys = []; offers = [] }; lots = 0 } in
      record {
        history = may.history ++ part sweep one_take ∷ [];
        kept = moves.kept may.history sweep may.kept;
        ascending = may.ascending.1;
        still_open = along2 (λ (t : Take). one_take.offer < t.offer) (λ (t : Take). 0 < left_in old.offers t.offer) (λ (t : Take). 0 < left_in new.offers t.offer) takes
            (λ t after has. omega (arith, has, later-left t.offer after)) later may.still_open.1;
        left = along2 (λ (t : Take). one_take.offer < t.offer) (λ (t : Take). t.lots ≤ left_in old.offers t.offer) (λ (t : Take). t.lots ≤ left_in new.offers t.offer) takes
            (λ t after has. omega (arith, has, later-left t.offer after)) later may.left.1;
        room = room-left takes f.0 (there-row may f.0 f.2.at) later may.room;
      }

  -- the later transfers may then be carried out
  pub may-rest : (t : Transfer) (ts : List Transfer) → taken_by t ≡ one_take → MayMove reference old (t ∷ ts) → MayMove reference new ts
  may-rest t ts is may =
      let takes = map taken_by ts in
      let may_take = subst (λ (m : Take). MayTake reference old (m ∷ takes)) is may.may in
      let f = found-there reference may_take.history old one_take.offer may_take.kept may_take.still_open.0 in
      let limits = moves.limits f.0 (there-row may_take f.0 f.2.at) in
      record {
        may = take-rest takes may_take;
        ready = all-ready reference old new ts (keep-later f.0 limits ts may_take.ascending.0) may.ready.1;
      }

  -- the earlier moves, and this one
  pub moves-on : (first : Totals) (takes : List Take) → MovesAll reference first old takes → MovesAll reference first new (takes ++ one_take ∷ [])
  moves-on first takes before = record {
    sums = λ side symbol. moves.sums side symbol ∙ before.sums side symbol;
    kept = λ history sweep kept.
        subst (λ (h : List Entry). IsKept reference h new) (append_assoc history (parts sweep takes) (part sweep one_take ∷ []) ∙ ap (λ (es : List Entry). history ++ es) (sym (map-append (part sweep) takes (one_take ∷ []))))
        (moves.kept (history ++ parts sweep takes) sweep (before.kept history sweep kept));
  }

-- the transfer at an index, and those after it
pub next-transfer : (reference : Tables) (totals : Totals) (all : List Transfer) (i : ℕ) {t : Transfer} → i < length all → t ≡ get_or all i t → MayMove reference totals (drop i all)
    → MayMove reference totals (t ∷ drop (i + 1) all)
next-transfer reference totals all i {t} within is = subst (MayMove reference totals) (drop_more all i t within ∙ ap (λ (t : Transfer). t ∷ drop (i + 1) all) (sym is))

-- it was carried out after those before it
pub carried-next : (reference : Tables) (first old new : Totals) (all : List Transfer) (i : ℕ) {t : Transfer} → i < length all → t ≡ get_or all i t → ClaimsLots old new t.moved
    → MayMove reference old (drop i all) × MovesAll reference first old (map taken_by (take i all)) → MayMove reference new (drop (i + 1) all) × MovesAll reference first new (map taken_by (take (i + 1) all))
carried-next reference first old new all i {t} within is claims so_far =
    let may = next-transfer reference old all i within is so_far.0 in
    let one = moves-one reference old t (drop (i + 1) all) may new claims in
    let done = ap (map taken_by) (take_more all i t within ∙ ap (λ (t : Transfer). take i all ++ t ∷ []) (sym is)) ∙ map-append taken_by (take i all) (t ∷ []) in (
      may-rest reference old new (taken_by t) one t (drop (i + 1) all) refl may,
      subst (MovesAll reference first new) (sym done) (moves-on reference old new (taken_by t) one first (map taken_by (take i all)) so_far.1),
    )

-- nothing was moved
pub moves-none : (reference : Tables) (totals : Totals) → MovesAll reference totals totals []
moves-none reference totals = record {
  sums = λ side symbol. refl;
  kept = λ history sweep kept. subst (λ (h : List Entry). IsKept reference h totals) (sym (append-nil history)) kept;
}
