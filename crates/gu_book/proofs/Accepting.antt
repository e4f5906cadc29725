-- Applying accepted commands to the totals kept beside a history.
use Rattle.gu_book.proofs.Words.{◌≡◌, ℕ, zero, suc, ◌+◌, ◌*◌, ◌-◌, ◌<◌, ◌≤◌, ◌&&◌, ◌++◌, true, false, List, [], ◌∷◌, length, slice_index_or, Option, None, Some, unwrap_or, Result, Ok, Err, refl, sym, ap, ◌∙◌, arith, subst, All, option_map, none-some, same_account-own, same_group-own, same_symbol-own, same_group, AccountId, Command, Refuse, Entry, FirmId, Group, LimitKey, Offer, Report, Side, Buy, Sell, Symbol, Tables, Charges, MayReturn, Returns, room_in, used_in, report_by, terms_of, Terms, changed, closed, reversed, taken, Row, left_in, row_at, today_in, lots_at, lots_in, State, answer, answer_in, state_of, IsAccepted, is_under, path_after, room_of, offers_of, standing_of, reports_of, path_after-once, held_in-has, held_in-moved, today-le-use_in, IsThere, MayBeClaimed, MayBeReversed, claimable, refusable, reversible, today-is, in_order, today-le-moved, either-true, taken_back, length-standing_from, TakesOne, claim-takes, claimed, MayTakeIn, TakesIn, IsBeside, IsKept, state_in, HoldsMoved, SameEntries, UsesLess, UsesMore, MovesLots, claim_of, reversal_of, ClaimsLots, MayClaim, Totals}
use Rattle.std.specs.Result.{OnOk}
use Rattle.gu_terms.specs.LimitKeys.{has_key, key_eq}
use Rattle.gu_terms.proofs.KeyLemmas.{key_eq-refl}
use Rattle.gu_terms.specs.declared.alloc_reject.AllocReject.{AllocReject}
use Rattle.gu_rules.proofs.Covered.{covered-taken}
use Rattle.gu_book.specs.Deeds.{AreFound}
use Rattle.gu_book.specs.declared.deed.Moved.{Moved}
use Rattle.gu_book.proofs.KeptOffers.{kept-refused, kept-taken, kept-taken_back, within-taken}

-- consequences of two properties of a result, and of three
pub on_ok_two : {T E P Q R : Type 0} (r : Result T E) → (P → Q → R) → OnOk r P → OnOk r Q → OnOk r R
on_ok_two (Ok x) f p q = f p q
on_ok_two (Err e) f p q = tt

pub on_ok_three : {T E P Q R S : Type 0} (r : Result T E) → (P → Q → R → S) → OnOk r P → OnOk r Q → OnOk r R → OnOk r S
on_ok_three (Ok x) f p q s = f p q s
on_ok_three (Err e) f p q s = tt

-- the totals are the state that the history leads to
pub state_is : (reference : Tables) (history : List Entry) (totals : Totals) → IsBeside reference history totals → state_in totals ≡ state_of reference history
state_is reference history totals b =
    λ i. record {
      today = b.today i;
      reports = b.reports i;
      offers = b.offers i;
      has_give_up = λ firm id. b.give_ups firm id i;
      room = λ group key. b.limits group key i - b.uses group key i;
    }

-- so the answer from them is the answer
pub answer_is : (reference : Tables) (history : List Entry) (totals : Totals) (command : Command) → IsBeside reference history totals
    → answer_in reference (state_in totals) command ≡ answer reference history command
answer_is reference history totals command b = ap (λ (s : State). answer_in reference s command) (state_is reference history totals b)

-- there are at most 16 offers for each entry
pub few_offers : (reference : Tables) (history : List Entry) (totals : Totals) → IsKept reference history totals → length totals.offers ≤ 16 * length history
few_offers reference history totals kept =
    omega (arith, ap (λ (rs : List Row). length rs) kept.beside.offers, length-standing_from history 1 (offers_of history), kept.orderly.few)

-- the lots of a place are in it
own_place : (side : Side) (account : AccountId) (symbol : Symbol) (lots : ℕ) → lots_at side account symbol lots side account symbol ≡ lots
own_place Buy account symbol lots = rw (same_account-own account, same_symbol-own symbol) refl
own_place Sell account symbol lots = rw (same_account-own account, same_symbol-own symbol) refl

-- terms that are found are a report's (a `cc` would look into each field of a report)
pub some-terms : (found : Option Report) (terms : Terms) → Some terms ≡ option_map terms_of found → (report : Report) × (found ≡ Some report) × (terms_of report ≡ terms)
some-terms None terms is = absurd (none-some terms (sym is))
some-terms (Some r) terms is = (r, refl, ap (λ (t : Option Terms). unwrap_or t terms) (sym is))

-- an offer and the terms of its report, as found, are those of the history
pub seen-is : (reference : Tables) (history : List Entry) (totals : Totals) (n : ℕ) (offer : Offer) (report : Terms) (found : Report) (row : Row) → IsBeside reference history totals
    → AreFound totals n offer report → IsThere history n row found → (offer ≡ row.offer) × (report ≡ terms_of found)
seen-is reference history totals n offer report found row b seen there =
    let shown : Some offer ≡ Some row.offer = seen.shown ∙ ap (λ (rs : List Row). option_map (λ (r : Row). r.offer) (row_at rs n)) b.offers ∙ ap (λ (o : Option Row). option_map (λ (r : Row). r.offer) o) there.at in
    let same : offer ≡ row.offer = ap (λ (o : Option Offer). unwrap_or o offer) shown in
    let reported : Some report ≡ Some (terms_of found) = seen.found ∙ ap (option_map terms_of) ((λ i. report_by (b.reports i) (same i).firm (same i).report) ∙ there.behind) in
    (same, ap (λ (t : Option Terms). unwrap_or t report) reported)

-- ---- claims

-- lots left of an open offer are held
pub taken-there : (reference : Tables) (history : List Entry) (totals : Totals) (n lots : ℕ) (row : Row) (report : Report) → IsKept reference history totals → IsThere history n row report
    → row.is_shut ≡ false → row.moved + lots ≤ row.offer.lots → lots ≤ lots_in totals.positions report.side report.account report.symbol
taken-there reference history totals n lots row report kept there stands less =
    let o = kept.orderly in
    let has =
    held_in-has (reports_of history) (standing_of history) n row there.at report.side report.account report.symbol report lots there.behind
    (covered-taken (reports_of history) (standing_of history) n row lots there.at stands o.covered)
    (within-taken history n lots row there.at less o.within) in
    omega (arith, has, own_place report.side report.account report.symbol lots, kept.beside.positions report.side report.account report.symbol)

-- an entry that takes lots from an open offer is applied
pub lots-taken : (reference : Tables) (history : List Entry) (old new : Totals) (entry : Entry) (n lots : ℕ) (offer : Offer) (report : Terms) (found : Report) (row : Row) → AreFound old n offer report → TakesOne entry n lots
    → SameEntries old new → new.offers ≡ changed old.offers n (taken lots) → UsesMore reference old.limits new.limits offer lots
    → HoldsMoved old.positions new.positions report report.account offer.account lots → IsKept reference history old → IsThere history n row found → row.is_shut ≡ false → row.moved + lots ≤ row.offer.lots
    → IsKept reference (history ++ entry ∷ []) new
lots-taken reference history old new entry n lots offer report found row seen takes same offers uses holds kept there stands less =
    let is = seen-is reference history old n offer report found row kept.beside seen there in
    kept-taken reference history old new entry n lots row found takes kept there stands less same offers
    (subst (λ (o : Offer). UsesMore reference old.limits new.limits o lots) is.0 uses)
    (subst (λ (r : Terms). HoldsMoved old.positions new.positions r r.account row.offer.account lots) is.1
    (subst (λ (o : Offer). HoldsMoved old.positions new.positions report report.account o.account lots) is.0 holds))

-- the lots that a firm's claim moves
abbrev pub ClaimsAll : Tables → Totals → Command → Moved → Type 0
ClaimsAll reference totals command it = MovesLots reference totals command claim_of it (left_in totals.offers it.number)

-- a claim has room, and its lots are held
pub claim-fits : (reference : Tables) (totals : Totals) (command : Command) (it : Moved) → MayTakeIn reference totals command → ClaimsAll reference totals command it → MayClaim totals it
claim-fits reference totals command it may is = record {
  keys = path_after reference is.found.offer;
  room = record { under = is.found.under; once = path_after-once reference is.found.offer; room = room };
  left = omega (arith, is.all);
  there = there;
}
  where
    asked : MayTakeIn reference totals (claim_of is.firm it.number)
    asked = subst (MayTakeIn reference totals) is.is may

    history : List Entry
    history = asked.history

    f : (row : Row) × (report : Report) × MayBeClaimed reference history it.number row report
    f = claimable reference history is.firm it.number (in_order history asked.kept.orderly) asked.accepted

    same : (is.found.offer ≡ f.0.offer) × (it.report ≡ terms_of f.1)
    same = seen-is reference history totals it.number is.found.offer it.report f.1 f.0 asked.kept.beside is.found.seen f.2.there

    left : it.lots ≡ left_in (standing_of history) it.number
    left = is.all ∙ ap (λ (rs : List Row). left_in rs it.number) asked.kept.beside.offers

    room : All (λ key. it.lots ≤ room_in totals.limits it.group key) (path_after reference is.found.offer)
    room k d within =
        let Room : Offer → Type 0 = λ o. k < length (path_after reference o) → left_in (standing_of history) it.number ≤ room_of reference history o.group (slice_index_or (path_after reference o) k d) in
        let has = subst Room (sym same.0) (f.2.room k d) within in
        let key = slice_index_or (path_after reference is.found.offer) k d in
        subst (λ (group : Group). it.lots ≤ room_in totals.limits group key) (sym is.found.group_is)
        (omega (arith, has, left, asked.kept.beside.limits is.found.offer.group key, asked.kept.beside.uses is.found.offer.group key))

    there : it.lots ≤ lots_in totals.positions it.report.side it.report.account it.report.symbol
    there =
        let fits = taken-there reference history totals (it.number) (left_in (standing_of history) it.number) f.0 f.1 asked.kept f.2.there f.2.stands f.2.less in
        subst (λ (r : Terms). it.lots ≤ lots_in totals.positions r.side r.account r.symbol) (sym same.1) (omega (arith, fits, left))

-- a claim is applied
pub claim-taken : (reference : Tables) (old new : Totals) (command : Command) (it : Moved) → ClaimsAll reference old command it → ClaimsLots old new it → TakesIn reference old new command
unfolding claim-fits
claim-taken reference old new command it is claims =
    subst (TakesIn reference old new) (sym is.is)
    (λ history kept accepted.
    let f = claimable reference history is.firm it.number (in_order history kept.orderly) accepted in
    let left : it.lots ≡ left_in (standing_of history) it.number = is.all ∙ ap (λ (rs : List Row). left_in rs it.number) kept.beside.offers in
    let fits = claim-fits reference old command it (record { history = history; kept = kept; accepted = subst (IsAccepted reference history) (sym is.is) accepted }) is in
    subst (λ (lots : ℕ). IsKept reference (history ++ claimed is.firm it.number lots ∷ []) new) left
    (lots-taken reference history old new (claimed is.firm it.number it.lots) it.number it.lots is.found.offer it.report f.1 f.0 is.found.seen (claim-takes is.firm it.number it.lots) claims.entries claims.offers
    (subst (λ (group : Group). Charges old.limits new.limits group (path_after reference is.found.offer) it.lots) is.found.group_is (claims.limits (path_after reference is.found.offer) fits.room))
    (subst (λ (account : AccountId). HoldsMoved old.positions new.positions it.report it.report.account account it.lots) is.found.account_is claims.positions) kept f.2.there f.2.stands (omega (arith, f.2.less, left))))

-- ---- refusals

-- a refusal is applied
pub refusal-taken : (reference : Tables) (old new : Totals) (n : ℕ) → SameEntries old new → new.offers ≡ changed old.offers n closed → new.limits ≡ old.limits → new.positions ≡ old.positions
    → (firm : FirmId) (why : AllocReject) → TakesIn reference old new (Refuse (record { firm = firm; offer = n; why = why }))
refusal-taken reference old new n same offers limits positions firm why history kept accepted =
    let f = refusable reference history firm n why (in_order history kept.orderly) accepted in
    kept-refused reference history old new firm n why (left_in (standing_of history) n) f.0 f.1 kept f.2 same offers limits positions

-- ---- reversals

-- a key of a path is on it
pub key_at : (path : List LimitKey) (k : ℕ) (d : LimitKey) → k < length path → has_key path (slice_index_or path k d) ≡ true
key_at [] k d within = absurd (omega arith)
key_at (key ∷ path) zero d within = rw (key_eq-refl key) refl
key_at (key ∷ path) (suc k) d within = either-true (key_eq key (slice_index_or path k d)) (has_key path (slice_index_or path k d)) (key_at path k d (omega arith))

-- the lots that a firm's reversal moves
abbrev pub TakesBack : Tables → Totals → Command → Moved → Type 0
TakesBack reference totals command it = MovesLots reference totals command reversal_of it (today_in totals.offers it.number)

-- what is reversed was used, and its lots are held
pub reversal-fits : (reference : Tables) (totals : Totals) (command : Command) (it : Moved) → MayTakeIn reference totals command → (is : TakesBack reference totals command it)
    → MayReturn totals.limits it.group (path_after reference is.found.offer) it.lots it.limits × (it.lots ≤ lots_in totals.positions it.report.side it.account it.report.symbol)
reversal-fits reference totals command it may is = (record { under = is.found.under; once = path_after-once reference is.found.offer; used = used }, there)
  where
    asked : MayTakeIn reference totals (reversal_of is.firm it.number)
    asked = subst (MayTakeIn reference totals) is.is may

    history : List Entry
    history = asked.history

    f : (row : Row) × (report : Report) × MayBeReversed history it.number row report
    f = reversible reference history is.firm it.number (in_order history asked.kept.orderly) asked.accepted

    row : Row
    row = f.0

    found : Report
    found = f.1

    same : (is.found.offer ≡ row.offer) × (it.report ≡ terms_of found)
    same = seen-is reference history totals it.number is.found.offer it.report found row asked.kept.beside is.found.seen f.2.there

    today : it.lots ≡ row.today
    today = is.all ∙ ap (λ (rs : List Row). today_in rs it.number) asked.kept.beside.offers ∙ today-is (standing_of history) it.number row f.2.there.at

    used : All (λ key. it.lots ≤ used_in totals.limits it.group key) (path_after reference is.found.offer)
    used k d within =
        let key = slice_index_or (path_after reference is.found.offer) k d in
        let own : is_under reference is.found.offer.group key (record row { offer = is.found.offer }) ≡ true = rw (same_group-own is.found.offer.group, key_at (path_after reference is.found.offer) k d within) refl in
        let under : is_under reference is.found.offer.group key row ≡ true = ap (λ (o : Offer). same_group is.found.offer.group o.group && has_key (path_after reference o) key) (sym same.0) ∙ own in
        subst (λ (group : Group). it.lots ≤ used_in totals.limits group key) (sym is.found.group_is)
        (omega (arith, today-le-use_in reference (standing_of history) it.number row f.2.there.at is.found.offer.group key under, today, asked.kept.beside.uses is.found.offer.group key))

    there : it.lots ≤ lots_in totals.positions it.report.side it.account it.report.symbol
    there =
        let o = asked.kept.orderly in
        let has =
        held_in-moved (reports_of history) (standing_of history) it.number row f.2.there.at found.side row.offer.account found.symbol found f.2.there.behind o.covered o.within
        (today-le-moved history it.number row o.balanced f.2.there.at) in
        let fits : it.lots ≤ lots_in totals.positions found.side row.offer.account found.symbol =
        omega (arith, has, own_place found.side row.offer.account found.symbol row.today, today, asked.kept.beside.positions found.side row.offer.account found.symbol) in
        let account : it.account ≡ row.offer.account = is.found.account_is ∙ ap (λ (o : Offer). o.account) same.0 in
        subst (λ (r : Terms). it.lots ≤ lots_in totals.positions r.side it.account r.symbol) (sym same.1)
        (subst (λ (account : AccountId). it.lots ≤ lots_in totals.positions found.side account found.symbol) (sym account) fits)

-- a reversal is applied
pub reversal-taken : (reference : Tables) (old new : Totals) (command : Command) (it : Moved) → (is : TakesBack reference old command it) → SameEntries old new → new.offers ≡ changed old.offers it.number reversed
    → ((keys : List LimitKey) → MayReturn old.limits it.group keys it.lots it.limits → Returns old.limits new.limits it.group keys it.lots)
    → HoldsMoved old.positions new.positions it.report it.account it.report.account it.lots → TakesIn reference old new command
reversal-taken reference old new command it is same offers uses holds =
    subst (TakesIn reference old new) (sym is.is)
    (λ history kept accepted.
    let f = reversible reference history is.firm it.number (in_order history kept.orderly) accepted in
    let row = f.0 in
    let found = f.1 in
    let there = f.2.there in
    let seen = seen-is reference history old it.number is.found.offer it.report found row kept.beside is.found.seen there in
    let own : today_in (standing_of history) it.number ≡ row.today = today-is (standing_of history) it.number row there.at in
    let today : it.lots ≡ row.today = is.all ∙ ap (λ (rs : List Row). today_in rs it.number) kept.beside.offers ∙ own in
    let fits = reversal-fits reference old command it (record { history = history; kept = kept; accepted = subst (IsAccepted reference history) (sym is.is) accepted }) is in
    let under = subst (λ (group : Group). Returns old.limits new.limits group (path_after reference is.found.offer) it.lots) is.found.group_is (uses (path_after reference is.found.offer) fits.0) in
    let account : it.account ≡ row.offer.account = is.found.account_is ∙ ap (λ (o : Offer). o.account) seen.0 in
    subst (λ (lots : ℕ). IsKept reference (history ++ taken_back is.firm it.number lots ∷ []) new) (sym own)
    (kept-taken_back reference history old new is.firm it.number row found kept there same offers
    (subst (λ (lots : ℕ). UsesLess reference old.limits new.limits row.offer lots) today (subst (λ (o : Offer). UsesLess reference old.limits new.limits o it.lots) seen.0 under))
    (subst (λ (lots : ℕ). HoldsMoved old.positions new.positions (terms_of found) row.offer.account found.account lots) today
    (subst (λ (r : Terms). HoldsMoved old.positions new.positions r row.offer.account r.account it.lots) seen.1
    (subst (λ (account : AccountId). HoldsMoved old.positions new.positions it.report account it.report.account it.lots) account holds)))))
