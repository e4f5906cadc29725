-- What is known of an accepted give-up.
use Rattle.gu_rules.proofs.Words.{◌≡◌, ℕ, suc, ◌+◌, ◌-◌, ◌≤◌, Bool, true, false, not, nat_lt, List, [], length, slice_get, Option, Some, is_none, is_some, None, refl, sym, ap, ◌∙◌, AllByRecursion, option_and_then, option_map, option_map_or, ltb-false, along, any_none, lots_in_all, GiveUp, Entry, FirmId, Group, Id, Line, Refusal, NoAgreement, NotMatched, TooManyLots, TooManyOffers, UnknownAccount, UnknownTrade, Offered, Opened, Report, account_row, agreement_between, Tables, is_of_trade, report_by, counted_under, open_count, IsAccepted, State, done_of, given_up, group_of, has_unknown_account, lacks_agreement, lines_tests, state_of, tests_of, standing_of, reports_of}
use Rattle.gu_terms.specs.declared.command.GiveUp.{GiveUp as GiveUpOf}
use Rattle.gu_rules.proofs.Facts.{some-of}
use Rattle.gu_rules.proofs.KnownOnes.{some-not-none}
use Rattle.gu_rules.proofs.Passing.{none_stands}
use Rattle.gu_rules.proofs.AcceptedCommands.{names-are, not_not, report-is}

-- its report and its group, the free lots, its accounts and agreements, and its effect
pub record MayBeGiven (reference : Tables) (history : List Entry) (it : GiveUpOf) (report : Report) (group : Group) : Type 0 where
  pub given : given_up reference (state_of reference history) it.firm it.report ≡ Some (report, group)
  pub of_firm : report.firm ≡ it.firm
  pub of_id : report.id ≡ it.report
  pub of_group : group_of reference report ≡ Some group
  pub there : report_by (reports_of history) report.firm report.id ≡ Some report
  pub matched : is_of_trade (reports_of history) report ≡ true
  pub free : lots_in_all it.lines ≤ report.lots - counted_under (standing_of history) report.firm report.id
  pub few : open_count (standing_of history) group + length it.lines ≤ 4096
  pub known : AllByRecursion (λ (l : Line). is_some (account_row reference l.account) ≡ true) it.lines
  pub agreed : AllByRecursion (λ (l : Line). is_some (agreement_between reference report.firm l.account) ≡ true) it.lines
  pub did : done_of reference (state_of reference history) (GiveUp it) ≡ Offered group (length (standing_of history) + 1) (length it.lines)

-- its group is that of its report's instrument
group-is : (reference : Tables) (state : State) (firm : FirmId) (own : Id) (report : Report) (group : Group) → given_up reference state firm own ≡ Some (report, group) → group_of reference report ≡ Some group
group-is reference state firm own report group e = by (report_by state.reports firm own) e
  where
    by : (found : Option Report) → option_and_then {U = Report × Group} (λ r. option_map {U = Report × Group} (λ at. (r, at)) (group_of reference r)) found ≡ Some (report, group) → group_of reference report ≡ Some group
    by None e = cc
    by (Some r) e = of (group_of reference r) refl e
      where
        of : (at : Option Group) → group_of reference r ≡ at → option_map {U = Report × Group} (λ g. (r, g)) at ≡ Some (report, group) → group_of reference report ≡ Some group
        of None is e = cc
        of (Some g) is e =
            let pair : ◌≡◌ {A = Report × Group} (r, g) (report, group) = cc in
            ap (λ (p : Report × Group). group_of reference p.0) (sym pair) ∙ is ∙ ap (λ (p : Report × Group). Some p.1) pair

-- a give-up of this report, in this group
pub may-be-given : (reference : Tables) (history : List Entry) (it : GiveUpOf) → IsAccepted reference history (GiveUp it)
    → (report : Report) (group : Group) → given_up reference (state_of reference history) it.firm it.report ≡ Some (report, group) → MayBeGiven reference history it report group
may-be-given reference history it is report group given =
    let state = state_of reference history in
    let tests = tests_of reference state (GiveUp it) in
    let done = done_of reference state (GiveUp it) in
    let passes = none_stands tests done done is.accepted in
    let names = names-are (reports_of history) it.firm it.report report (report-is reference state it.firm it.report report group given) in
    let tail : option_map_or (λ g. lines_tests reference state g.0 g.1 it.lines) (given_up reference state it.firm it.report) [] ≡ lines_tests reference state report group it.lines =
    ap (λ (g : Option (Report × Group)). option_map_or (λ g. lines_tests reference state g.0 g.1 it.lines) g []) given in
    let at : (k : ℕ) → slice_get tests (suc (suc (suc (suc k)))) ≡ slice_get (lines_tests reference state report group it.lines) k = λ k. ap (λ (ts : List (Bool × Refusal)). slice_get ts k) tail in
    let free = report.lots - counted_under (standing_of history) report.firm report.id in
    let opened = open_count (standing_of history) group + length it.lines in
    let accounts = any_none (λ (l : Line). is_none (account_row reference l.account)) it.lines (passes 1 (has_unknown_account reference it.lines) UnknownAccount refl) in
    let agreements = any_none (λ (l : Line). is_none (agreement_between reference report.firm l.account)) it.lines (passes 5 (lacks_agreement reference report.firm it.lines) NoAgreement (at 1)) in
    record {
      given = given;
      of_firm = names.0;
      of_id = names.1;
      of_group = group-is reference state it.firm it.report report group given;
      there = (λ i. report_by (reports_of history) (names.0 i) (names.1 i)) ∙ report-is reference state it.firm it.report report group given;
      matched = not_not (is_of_trade (reports_of history) report) (passes 4 (not (is_of_trade (reports_of history) report)) NotMatched (at 0));
      free = ltb-false free (lots_in_all it.lines) (passes 6 (nat_lt free (lots_in_all it.lines)) TooManyLots (at 2));
      few = ltb-false 4096 opened (passes 7 (nat_lt 4096 opened) TooManyOffers (at 3));
      known = along (λ (l : Line). is_none (account_row reference l.account) ≡ false) (λ (l : Line). is_some (account_row reference l.account) ≡ true) it.lines
          (λ l. some-not-none (account_row reference l.account)) accounts;
      agreed = along (λ (l : Line). is_none (agreement_between reference report.firm l.account) ≡ false) (λ (l : Line). is_some (agreement_between reference report.firm l.account) ≡ true) it.lines
          (λ l. some-not-none (agreement_between reference report.firm l.account)) agreements;
      did = ap (λ (g : Option (Report × Group)). option_map_or (λ g. Offered g.1 (length (standing_of history) + 1) (length it.lines)) g Opened) given;
    }

-- there is such a report and group
pub givable : (reference : Tables) (history : List Entry) (it : GiveUpOf) → IsAccepted reference history (GiveUp it)
    → (report : Report) × (group : Group) × MayBeGiven reference history it report group
givable reference history it is =
    let state = state_of reference history in
    let done = done_of reference state (GiveUp it) in
    let given = given_up reference state it.firm it.report in
    let found = some-of given (none_stands (tests_of reference state (GiveUp it)) done done is.accepted 3 (is_none given) UnknownTrade refl) in
    (found.0.0, found.0.1, may-be-given reference history it is found.0.0 found.0.1 found.1)
