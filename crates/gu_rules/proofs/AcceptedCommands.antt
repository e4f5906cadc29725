-- Accepted commands: their entries, and what follows from the tests that they passed.
use Rattle.gu_rules.proofs.Words.{◌≡◌, Bool, true, false, List, [], ◌∷◌, refl, ◌<◌, length, sym, ◌∙◌, ℕ, Option, Some, None, ap, not, suc, slice_get, option_and_then, option_map, option_map_or, same_firm-true, same_id-true, both, Command, GiveUp, OpenDay, ReportSide, SetLimit, Day, Entry, Asked, FirmId, Group, Id, LimitKey, Line, Refusal, DuplicateId, MatchConflict, Done, LimitSet, Offered, Opened, Reply, Accepted, Denied, Report, Tables, conflicts, has_report, is_by, made_on, report_by, with_match, State, answer, done_of, first_standing, given_up, group_of, report_tests, state_of, tests_of, IsAccepted, accepts, Fits, open_day, reports_of}
use Rattle.gu_terms.specs.declared.command.ReportSide.{ReportSide as ReportSideOf}
use Rattle.gu_positions.proofs.Changed.{find-passes}
use Rattle.gu_rules.proofs.Passing.{none_stands}

-- an accepted command has the effect that it has if no test holds
pub accepted-done : (tests : List (Bool × Refusal)) (done given : Done) → first_standing tests done ≡ Accepted given → first_standing tests done ≡ Accepted done
accepted-done [] done given e = refl
accepted-done ((true, why) ∷ tests) done given e = cc
accepted-done ((false, why) ∷ tests) done given e = accepted-done tests done given e

-- a reply that accepts has an effect, and any other is a refusal
did : (reply : Reply) → accepts reply ≡ true → (done : Done) × (reply ≡ Accepted done)
did (Accepted done) e = (done, refl)
did (Denied why) e = cc

pub refused : (reply : Reply) → accepts reply ≡ false → (why : Refusal) × (reply ≡ Denied why)
refused (Denied why) e = (why, refl)
refused (Accepted done) e = cc

-- a command whose answer accepts is accepted
pub is-accepted : (reference : Tables) (history : List Entry) (command : Command) (reply : Reply) → length history < 1000000 → reply ≡ answer reference history command → accepts reply ≡ true
    → IsAccepted reference history command
is-accepted reference history command reply room is accepted =
    let one = did reply accepted in
    record { room = room; accepted = accepted-done (tests_of reference (state_of reference history) command) (done_of reference (state_of reference history) command) one.0 (sym is ∙ one.1) }

-- the entries of an opening, a limit and a give-up
abbrev pub opening : Day → Entry
opening day = Asked (OpenDay (record { day = day })) (Accepted Opened)

abbrev pub setting : Group → LimitKey → ℕ → Entry
setting group key lots = Asked (SetLimit (record { group = group; key = key; lots = lots })) (Accepted LimitSet)

abbrev pub giving_up : FirmId → Id → Id → List Line → Group → ℕ → Entry
giving_up firm id report lines group first = Asked (GiveUp (record { firm = firm; id = id; report = report; lines = lines })) (Accepted (Offered group first (length lines)))

-- the report that is given up is the firm's with this id
pub report-is : (reference : Tables) (state : State) (firm : FirmId) (own : Id) (report : Report) (group : Group) → given_up reference state firm own ≡ Some (report, group) → report_by state.reports firm own ≡ Some report
report-is reference state firm own report group e = by (report_by state.reports firm own) e
  where
    by : (found : Option Report) → option_and_then {U = Report × Group} (λ r. option_map {U = Report × Group} (λ at. (r, at)) (group_of reference r)) found ≡ Some (report, group) → found ≡ Some report
    by None e = cc
    by (Some r) e = of (group_of reference r) e
      where
        of : (at : Option Group) → option_map {U = Report × Group} (λ g. (r, g)) at ≡ Some (report, group) → Some r ≡ Some report
        of None e = cc
        of (Some g) e = ap (λ (o : Option (Report × Group)). option_map {U = Report} (λ p. p.0) o) e

pub names-are : (reports : List Report) (firm : FirmId) (own : Id) (report : Report) → report_by reports firm own ≡ Some report → (report.firm ≡ firm) × (report.id ≡ own)
names-are reports firm own report found =
    let parts = both _ _ (find-passes (is_by firm own) reports report found) in
    (same_firm-true report.firm firm parts.0, same_id-true report.id own parts.1)

pub not_not : (b : Bool) → not b ≡ false → b ≡ true
not_not true e = refl
not_not false e = cc

-- an accepted report fits those before it
pub fits-in : (reference : Tables) (it : ReportSideOf) (day : Day) (history : List Entry) → open_day history ≡ Some day → IsAccepted reference history (ReportSide it)
    → Fits (reports_of history) (made_on day it)
fits-in reference it day history opened is =
    let state = state_of reference history in
    let command = ReportSide it in
    let reports = reports_of history in
    let made = made_on day it in
    let tests = tests_of reference state command in
    let done = done_of reference state command in
    let tail : option_map_or (λ today. report_tests reference reports (made_on today it) it.day) (open_day history) [] ≡ report_tests reference reports made it.day =
    ap (λ (d : Option Day). option_map_or (λ today. report_tests reference reports (made_on today it) it.day) d []) opened in
    let at : (k : ℕ) → slice_get tests (suc k) ≡ slice_get (report_tests reference reports made it.day) k = λ k. ap (λ (ts : List (Bool × Refusal)). slice_get ts k) tail in
    record {
      new_id = none_stands tests done done is.accepted 5 (has_report reports it.firm it.id) DuplicateId (at 4);
      fits = none_stands tests done done is.accepted 6 (conflicts (with_match it.match_id reports) made) MatchConflict (at 5);
    }
