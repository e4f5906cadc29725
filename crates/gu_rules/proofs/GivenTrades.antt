-- Each offer of a legal history gives up a trade, and the two sides of a trade have as many lots.
use Rattle.gu_rules.proofs.Words.{◌≡◌, ℕ, ◌+◌, ◌<◌, ◌&&◌, ◌++◌, Bool, true, false, not, List, [], ◌∷◌, length, map, slice_get, sum_by, Option, Some, None, is_none, is_some, if◌then◌else◌, refl, sym, ap, ◌∙◌, arith, append-nil, subst, AllByRecursion, IsDistinct, find, option_map_or, option_or, option_to_list, find-append, along, sum_by-add, sum_by-agree, sum_by-zeros, same_account-turned, same_symbol-own, same_account, same_id, same_side, same_symbol, AccountId, Command, ReportSide, GiveUp, Day, Entry, Asked, Swept, FirmId, Group, Id, Line, Offer, Refusal, UnknownAccount, Done, Reply, Accepted, Denied, Report, Side, Buy, Sell, Symbol, account_in, account_row, agreement_between, Tables, Account, lots_at, lots_at_side, conflicts, is_other_side, is_by, made_on, with_match, IsAccepted, IsLegal, MayFollow, accepted_entry, done_of, report_tests, state_of, tests_of, lines_by, offers_of, standing_of, traded, Fits, open_day, report_on, reports_of}
use Rattle.gu_terms.specs.declared.command.GiveUp.{GiveUp as GiveUpOf}
use Rattle.gu_positions.specs.Rows.{Row as PositionRow, is_of}
use Rattle.gu_rules.specs.Laws.{AllGiveUpTrades, GivesUpTrade}
use Rattle.gu_rules.proofs.AcceptedCommands.{fits-in, giving_up, is-accepted}
use Rattle.gu_rules.proofs.Even.{other-side, sides-even}
use Rattle.gu_rules.proofs.Facts.{some-is}
use Rattle.gu_rules.proofs.GivenUp.{MayBeGiven, givable}
use Rattle.gu_rules.proofs.Growing.{reports_of-push}
use Rattle.gu_rules.proofs.AccountSums.{one-account}
use Rattle.gu_rules.proofs.OrderedReports.{all-push}
use Rattle.gu_rules.proofs.KnownOnes.{all-passing, is_there, some-not-none}
use Rattle.gu_rules.proofs.LegalOrder.{day-there}
use Rattle.gu_rules.proofs.Onward.{each_legal}
use Rattle.gu_rules.proofs.OrderlyLemmas.{reports_of-kept}
use Rattle.gu_rules.proofs.Passing.{none_stands}
use Rattle.gu_rules.proofs.Quiet.{denied-lines, denied-quiet, unreported}
use Rattle.gu_rules.proofs.Reported.{is_of_trade-grows, traded-matched, traded-opened}
use Rattle.gu_rules.proofs.StandingLemmas.{offers_of-push}

-- ---- sums over accounts

module _ (accounts : List Account) (once : IsDistinct (λ a b. same_account a.account b.account) accounts) (symbol : Symbol) where
  -- among distinct accounts, the lots of one are counted once
  pub alone : (name : AccountId) (lots : ℕ) → is_some (account_in accounts name) ≡ true → sum_by (λ (a : Account). if same_account name a.account then lots else 0) accounts ≡ lots
  alone name lots there =
      let r : PositionRow = record { account = name; symbol = symbol; long = lots; short = 0 } in
      sum_by-agree (λ (a : Account). if same_account name a.account then lots else 0) (λ (a : Account). if is_of a.account symbol r then lots else 0) accounts turned
      ∙ one-account (λ (q : PositionRow). q.long) r symbol accounts once there
      ∙ rw (same_symbol-own symbol) refl
    where
      with_true : (b : Bool) → (if b then lots else 0) ≡ (if b && true then lots else 0)
      with_true true = refl
      with_true false = refl

      turned : (a : Account) → (if same_account name a.account then lots else 0) ≡ (if same_account a.account name && same_symbol symbol symbol then lots else 0)
      turned a = rw (same_symbol-own symbol, same_account-turned name a.account) (with_true (same_account a.account name))

  -- or not at all
  pub alone-if : (b : Bool) (name : AccountId) (lots : ℕ) → is_some (account_in accounts name) ≡ true → sum_by (λ (a : Account). if b && same_account name a.account then lots else 0) accounts ≡ (if b then lots else 0)
  alone-if true name lots there = alone name lots there
  alone-if false name lots there = sum_by-zeros accounts

  -- lots on a side and for an account are counted on that side
  alone-at : (side on : Side) (name : AccountId) (own : Symbol) (lots : ℕ) → is_some (account_in accounts name) ≡ true
      → sum_by (λ (a : Account). lots_at side name own lots on a.account symbol) accounts ≡ lots_at_side side own lots on symbol
  alone-at side on name own lots there =
      sum_by-agree (λ (a : Account). lots_at side name own lots on a.account symbol) (λ (a : Account). if (same_side side on && same_symbol own symbol) && same_account name a.account then lots else 0) accounts
      (λ a. by (same_side side on) (same_account name a.account) (same_symbol own symbol))
      ∙ alone-if (same_side side on && same_symbol own symbol) name lots there
    where
      by : (p a s : Bool) → (if p && (a && s) then lots else 0) ≡ (if (p && s) && a then lots else 0)
      by true true true = refl
      by true true false = refl
      by true false true = refl
      by true false false = refl
      by false a s = refl

  -- the lots that trades brought to all accounts on a side
  abbrev pub traded_on : List Report → Side → ℕ
  traded_on reports side = sum_by (λ (a : Account). traded reports side a.account symbol) accounts

  -- a report for which none is waiting brings nothing
  on-opened : (reports : List Report) (r : Report) (side : Side) → with_match r.match_id reports ≡ [] → traded_on (reports ++ r ∷ []) side ≡ traded_on reports side
  on-opened reports r side none =
      sum_by-agree (λ (a : Account). traded (reports ++ r ∷ []) side a.account symbol) (λ (a : Account). traded reports side a.account symbol) accounts (λ a. traded-opened reports r side a.account symbol none)

  -- a matched report brings both
  on-matched : (reports : List Report) (waiting r : Report) (side : Side) → with_match r.match_id reports ≡ waiting ∷ [] → is_some (account_in accounts waiting.account) ≡ true → is_some (account_in accounts r.account) ≡ true
      → traded_on (reports ++ r ∷ []) side ≡ traded_on reports side + lots_at_side waiting.side waiting.symbol waiting.lots side symbol + lots_at_side r.side r.symbol r.lots side symbol
  on-matched reports waiting r side one theirs mine =
      let before : Account → ℕ = λ a. traded reports side a.account symbol in
      let first : Account → ℕ = λ a. lots_at waiting.side waiting.account waiting.symbol waiting.lots side a.account symbol in
      let second : Account → ℕ = λ a. lots_at r.side r.account r.symbol r.lots side a.account symbol in
      omega (
        arith,
        sum_by-agree (λ (a : Account). traded (reports ++ r ∷ []) side a.account symbol) (λ a. before a + first a + second a) accounts (λ a. traded-matched reports waiting r side a.account symbol one),
        sum_by-add (λ (a : Account). before a + first a) second accounts,
        sum_by-add before first accounts,
        alone-at waiting.side side waiting.account waiting.symbol waiting.lots theirs,
        alone-at r.side side r.account r.symbol r.lots mine,
      )

  -- so as many lots as before were brought on either side
  even-on : (reports : List Report) (r : Report) → AllByRecursion (λ (q : Report). is_some (account_in accounts q.account) ≡ true) reports → is_some (account_in accounts r.account) ≡ true
      → conflicts (with_match r.match_id reports) r ≡ false → traded_on reports Buy ≡ traded_on reports Sell → traded_on (reports ++ r ∷ []) Buy ≡ traded_on (reports ++ r ∷ []) Sell
  even-on reports r known mine fits even =
      by (with_match r.match_id reports) refl fits (all-passing (λ (q : Report). is_some (account_in accounts q.account) ≡ true) (λ (q : Report). same_id q.match_id r.match_id) reports known)
    where
      on : (b : Bool) → not b ≡ false → b ≡ true
      on true h = refl
      on false h = cc

      by : (sides : List Report) → with_match r.match_id reports ≡ sides → conflicts sides r ≡ false → AllByRecursion (λ (q : Report). is_some (account_in accounts q.account) ≡ true) sides
          → traded_on (reports ++ r ∷ []) Buy ≡ traded_on (reports ++ r ∷ []) Sell
      by [] e h k = on-opened reports r Buy e ∙ even ∙ sym (on-opened reports r Sell e)
      by (waiting ∷ []) e h k =
          let apart = other-side waiting r (on (is_other_side waiting r) h) in
          let sides : lots_at_side waiting.side waiting.symbol waiting.lots Buy symbol + lots_at_side r.side r.symbol r.lots Buy symbol
          ≡ lots_at_side waiting.side waiting.symbol waiting.lots Sell symbol + lots_at_side r.side r.symbol r.lots Sell symbol =
          rw (apart.0, apart.1.0) (sides-even waiting.side r.side r.symbol symbol r.lots apart.1.1) in
          omega (arith, on-matched reports waiting r Buy e k.0 mine, on-matched reports waiting r Sell e k.0 mine, even, sides)
      by (first ∷ second ∷ more) e h k = cc

-- ---- all of it

-- the accounts of all reports are in the reference, each offer gives up a trade, and trades brought as many lots on either side
pub record IsSourced (reference : Tables) (history : List Entry) : Type 0 where
  pub reports : AllByRecursion (λ (r : Report). is_there reference r.account) (reports_of history)
  pub offers : AllGiveUpTrades reference history
  pub even : (once : IsDistinct (λ a b. same_account a.account b.account) reference.accounts) (symbol : Symbol)
      → traded_on reference.accounts once symbol (reports_of history) Buy ≡ traded_on reference.accounts once symbol (reports_of history) Sell

-- an entry that reports nothing and makes no offer
sourced-still : (reference : Tables) (history : List Entry) (entry : Entry) → report_on (open_day history) entry ≡ None → lines_by entry ≡ [] → IsSourced reference history → IsSourced reference (history ++ entry ∷ [])
sourced-still reference history entry none nothing sourced =
    let reports = sym (reports_of-kept history entry none) in
    let offers : offers_of history ≡ offers_of (history ++ entry ∷ []) = sym (offers_of-push history entry ∙ ap (λ (made : List Offer). offers_of history ++ made) nothing ∙ append-nil (offers_of history)) in
    record {
      reports = subst (AllByRecursion (λ (r : Report). is_there reference r.account)) reports sourced.reports;
      offers = subst (λ (os : List Offer). AllByRecursion (GivesUpTrade reference (reports_of (history ++ entry ∷ []))) os) offers
          (subst (λ (rs : List Report). AllByRecursion (GivesUpTrade reference rs) (offers_of history)) reports sourced.offers);
      even = λ once symbol. subst (λ (rs : List Report). traded_on reference.accounts once symbol rs Buy ≡ traded_on reference.accounts once symbol rs Sell) reports (sourced.even once symbol);
    }

-- a report
sourced-reported : (reference : Tables) (history : List Entry) (entry : Entry) (r : Report) → report_on (open_day history) entry ≡ Some r → lines_by entry ≡ [] → Fits (reports_of history) r → is_there reference r.account
    → IsSourced reference history → IsSourced reference (history ++ entry ∷ [])
sourced-reported reference history entry r reports nothing fits mine sourced =
    let old = reports_of history in
    let grown : old ++ r ∷ [] ≡ reports_of (history ++ entry ∷ []) = sym (reports_of-push history entry ∙ ap (λ (q : Option Report). old ++ option_to_list q) reports) in
    let offers : offers_of history ≡ offers_of (history ++ entry ∷ []) = sym (offers_of-push history entry ∙ ap (λ (made : List Offer). offers_of history ++ made) nothing ∙ append-nil (offers_of history)) in
    record {
      reports = subst (AllByRecursion (λ (q : Report). is_there reference q.account)) grown (all-push (λ (q : Report). is_there reference q.account) old r sourced.reports mine);
      offers = subst (λ (os : List Offer). AllByRecursion (GivesUpTrade reference (reports_of (history ++ entry ∷ []))) os) offers
          (subst (λ (rs : List Report). AllByRecursion (GivesUpTrade reference rs) (offers_of history)) grown
          (along (GivesUpTrade reference old) (GivesUpTrade reference (old ++ r ∷ [])) (offers_of history) on sourced.offers));
      even = λ once symbol. subst (λ (rs : List Report). traded_on reference.accounts once symbol rs Buy ≡ traded_on reference.accounts once symbol rs Sell) grown
          (even-on reference.accounts once symbol old r sourced.reports mine fits.fits (sourced.even once symbol));
    }
  where
    on : (o : Offer) → GivesUpTrade reference (reports_of history) o → GivesUpTrade reference (reports_of history ++ r ∷ []) o
    on o f = record {
      report = f.report;
      found = find-append (is_by o.firm o.report) (reports_of history) (r ∷ []) ∙ ap (λ (q : Option Report). option_or q (find (is_by o.firm o.report) (r ∷ []))) f.found;
      traded = is_of_trade-grows (reports_of history) r f.report f.traded;
      group = f.group;
      account = f.account;
      agreement = f.agreement;
      between = f.between;
    }

-- a give-up
sourced-given : (reference : Tables) (history : List Entry) (it : GiveUpOf) → IsAccepted reference history (GiveUp it) → IsSourced reference history
    → IsSourced reference (history ++ accepted_entry reference history (GiveUp it) ∷ [])
sourced-given reference history it is sourced =
    subst (λ (d : Done). IsSourced reference (history ++ Asked (GiveUp it) (Accepted d) ∷ [])) (sym may.did)
    (subst (λ (f : FirmId). IsSourced reference (history ++ giving_up f it.id it.report it.lines group first ∷ [])) may.of_firm
    (subst (λ (o : Id). IsSourced reference (history ++ giving_up report.firm it.id o it.lines group first ∷ [])) may.of_id whole))
  where
    report : Report
    report = (givable reference history it is).0

    group : Group
    group = (givable reference history it is).1

    may : MayBeGiven reference history it report group
    may = (givable reference history it is).2

    first : ℕ
    first = length (standing_of history) + 1

    more : (offers : List Offer) (ls : List Line) → AllByRecursion (GivesUpTrade reference (reports_of history)) offers → AllByRecursion (λ (l : Line). is_there reference l.account) ls
        → AllByRecursion (λ (l : Line). is_some (agreement_between reference report.firm l.account) ≡ true) ls
        → AllByRecursion (GivesUpTrade reference (reports_of history)) (offers ++ map (λ (l : Line). record { firm = report.firm; report = report.id; group = group; account = l.account; lots = l.lots }) ls)
    more [] [] h known agreed = tt
    more [] (l ∷ ls) h known agreed =
        let between = some-is (agreement_between reference report.firm l.account) agreed.0 in (
          record {
            report = report;
            found = may.there;
            traded = may.matched;
            group = may.of_group;
            account = known.0;
            agreement = between.0;
            between = between.1;
          },
          more [] ls h known.1 agreed.1,
        )
    more (o ∷ offers) ls h known agreed = (h.0, more offers ls h.1 known agreed)

    whole : IsSourced reference (history ++ giving_up report.firm it.id report.id it.lines group first ∷ [])
    whole =
        let entry = giving_up report.firm it.id report.id it.lines group first in
        let reports = sym (reports_of-kept history entry (unreported entry (λ d. refl) (open_day history))) in
        record {
          reports = subst (AllByRecursion (λ (r : Report). is_there reference r.account)) reports sourced.reports;
          offers = subst (λ (os : List Offer). AllByRecursion (GivesUpTrade reference (reports_of (history ++ entry ∷ []))) os) (sym (offers_of-push history entry))
              (subst (λ (rs : List Report). AllByRecursion (GivesUpTrade reference rs) (offers_of history ++ lines_by entry)) reports (more (offers_of history) it.lines sourced.offers may.known may.agreed));
          even = λ once symbol. subst (λ (rs : List Report). traded_on reference.accounts once symbol rs Buy ≡ traded_on reference.accounts once symbol rs Sell) reports (sourced.even once symbol);
        }

-- any accepted command
sourced-accepted : (reference : Tables) (history : List Entry) (command : Command) → IsAccepted reference history command → IsSourced reference history → IsSourced reference (history ++ accepted_entry reference history command ∷ [])
sourced-accepted reference history (ReportSide it) is sourced =
    let command = ReportSide it in
    let entry = accepted_entry reference history command in
    let state = state_of reference history in
    let today = day-there reference history it is in
    let tail = ap (λ (d : Option Day). option_map_or (λ today. report_tests reference (reports_of history) (made_on today it) it.day) d []) today.1 in
    let mine = none_stands (tests_of reference state command) (done_of reference state command) (done_of reference state command) is.accepted 3 (is_none (account_row reference it.account)) UnknownAccount
    (ap (λ (ts : List (Bool × Refusal)). slice_get ts 2) tail) in
    sourced-reported reference history entry (made_on today.0 it) (ap (λ (d : Option Day). report_on d entry) today.1) refl
    (fits-in reference it today.0 history today.1 is) (some-not-none (account_row reference it.account) mine) sourced
sourced-accepted reference history (GiveUp it) is sourced = sourced-given reference history it is sourced
sourced-accepted reference history command is sourced =
    let entry = accepted_entry reference history command in sourced-still reference history entry (unreported entry (λ d. refl) (open_day history)) refl sourced

-- every legal history
pub sourced : (reference : Tables) (history : List Entry) → IsLegal reference history → IsSourced reference history
sourced reference history legal = each_legal reference (IsSourced reference) (record { reports = tt; offers = tt; even = λ once symbol. refl }) more history legal
  where
    more : (before : List Entry) (entry : Entry) → length before < 1000000 → MayFollow reference before entry → IsSourced reference before → IsSourced reference (before ++ entry ∷ [])
    more before (Asked command (Denied why)) room may holds = sourced-still reference before (Asked command (Denied why)) (denied-quiet before command why).reports (denied-lines command why) holds
    more before (Asked command (Accepted done)) room may holds =
        let is = is-accepted reference before command (Accepted done) room may refl in
        subst (λ (r : Reply). IsSourced reference (before ++ Asked command r ∷ [])) (sym (may ∙ is.accepted)) (sourced-accepted reference before command is holds)
    more before (Swept sweep) room may holds = sourced-still reference before (Swept sweep) (unreported (Swept sweep) (λ d. refl) (open_day before)) refl holds
