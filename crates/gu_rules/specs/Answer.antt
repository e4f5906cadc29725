-- The answer to a command: the first refusal whose condition holds, or else the command's effect.
use Rattle.std.specs.Prelude.{ℕ, ◌+◌, ◌-◌, ◌==◌, ◌&&◌, ◌++◌, Bool, true, false, not, nat_lt, List, [], ◌∷◌, length, map, Option, Some, None, is_none, is_some, if◌then◌else◌}
use Rattle.std.specs.List.{find, list_any}
use Rattle.std.specs.Option.{option_and_then, option_map, option_map_or}
use Rattle.gu_terms.specs.Days.{date_number}
use Rattle.gu_terms.specs.Lines.{lots_in_all}
use Rattle.gu_terms.specs.Same.{same_day, same_firm}
use Rattle.gu_terms.specs.declared.account.AccountId.{AccountId}
use Rattle.gu_terms.specs.declared.day.Day.{Day}
use Rattle.gu_terms.specs.declared.firm.FirmId.{FirmId}
use Rattle.gu_terms.specs.declared.group.Group.{Group}
use Rattle.gu_terms.specs.declared.id.Id.{Id}
use Rattle.gu_terms.specs.declared.limit_key.LimitKey.{LimitKey}
use Rattle.gu_terms.specs.declared.limit_key.LimitKey.TheVariants.{Exec, Agr, Acct, Carry, Guar}
use Rattle.gu_terms.specs.declared.lines.Line.{Line}
use Rattle.gu_terms.specs.declared.report.Report.{Report}
use Rattle.gu_terms.specs.declared.command.Command.{Command}
use Rattle.gu_terms.specs.declared.command.ReportSide.{ReportSide as ReportSideOf}
use Rattle.gu_terms.specs.declared.command.Command.TheVariants.{OpenDay, SetLimit, ReportSide, GiveUp, Claim, Refuse, Reverse}
use Rattle.gu_terms.specs.declared.refusal.Refusal.{Refusal}
use Rattle.gu_terms.specs.declared.refusal.Refusal.TheVariants.{NoDay, WrongDay, UnknownInstrument, UnknownAccount, NotYours, DuplicateId, MatchConflict, UnknownTrade, NotMatched, NoAgreement, TooManyLots, TooManyOffers, UnknownOffer, OfferClosed, LimitReached, UnknownKey, TooHigh, OfferOpen, NothingToReverse}
use Rattle.gu_terms.specs.declared.reply.Done.{Done}
use Rattle.gu_terms.specs.declared.reply.Done.TheVariants.{Opened, LimitSet, Reported, Offered, Claimed, Refused, Reversed}
use Rattle.gu_terms.specs.declared.reply.Reply.{Reply}
use Rattle.gu_terms.specs.declared.reply.Reply.TheVariants.{Accepted, Denied}
use Rattle.gu_terms.specs.declared.entry.Entry.{Entry}
use Rattle.gu_ref.specs.Reference.{is_firm, is_group, is_instrument, instrument_row, account_row, agreement_between, agreement_row, is_guarantor}
use Rattle.gu_ref.specs.Tables.{Tables}
use Rattle.gu_ref.specs.declared.instruments.Instrument.{Instrument}
use Rattle.gu_trades.specs.Counterparts.{standing_in}
use Rattle.gu_trades.specs.Matching.{conflicts, is_waiting}
use Rattle.gu_trades.specs.declared.standing.Standing.{Standing}
use Rattle.gu_trades.specs.Reports.{has_report, report_by, made_on, with_match}
use Rattle.gu_offers.specs.Rows.{Row, counted_under, left_in, open_count, row_at, today_in}
use Rattle.gu_rules.specs.Limits.{path_after, room_of}
use Rattle.gu_rules.specs.Offers.{has_give_up, standing_of}
use Rattle.gu_rules.specs.Reports.{open_day, reports_of}

-- the first refusal whose condition holds, or else the command's effect
abbrev pub first_standing : List (Bool × Refusal) → Done → Reply
first_standing [] done = Accepted done
first_standing (test ∷ tests) done = if test.0 then Denied test.1 else first_standing tests done

-- the first refusal whose condition holds, if any does
abbrev pub refusal_in : List (Bool × Refusal) → Option Refusal
refusal_in tests = option_map (λ test. test.1) (find (λ test. test.0) tests)

-- a day is after the open one, or no day is open
abbrev pub is_later : Option Day → Day → Bool
is_later None day = true
is_later (Some today) day = nat_lt (date_number today.year today.month today.day) (date_number day.year day.month day.day)

-- a report names a day that isn't the open one
abbrev pub is_other_day : Day → Option Day → Bool
is_other_day today None = false
is_other_day today (Some day) = not (same_day today day)

-- the account is in the reference and is another firm's
abbrev pub is_another_firms : Tables → AccountId → FirmId → Bool
is_another_firms reference account firm = option_map_or (λ row. not (same_firm row.firm firm)) (account_row reference account) false

-- the reference has what a key names; a guarantor's key needs a firm that is the guarantor in a row
abbrev pub is_known_key : Tables → LimitKey → Bool
is_known_key reference (Exec firm) = is_firm reference firm
is_known_key reference (Agr agreement) = is_some (agreement_row reference agreement)
is_known_key reference (Acct account) = is_some (account_row reference account)
is_known_key reference (Carry firm) = is_firm reference firm
is_known_key reference (Guar firm) = is_guarantor reference firm

-- the most lots in a limit
abbrev pub most_limit : ℕ
most_limit = 1000000000

-- the tests for opening a day
abbrev pub opening_tests : Option Day → Day → List (Bool × Refusal)
opening_tests today day = (not (is_later today day), WrongDay) ∷ []

-- the tests for setting a limit
abbrev pub limit_tests : Tables → Group → LimitKey → ℕ → List (Bool × Refusal)
limit_tests reference group key lots =
    (not (is_group reference group && is_known_key reference key), UnknownKey)
    ∷ (nat_lt most_limit lots, TooHigh)
    ∷ []

-- the tests for a report made on the open day, given the day that its firm names, if any, and the reports accepted before
abbrev pub report_tests : Tables → List Report → Report → Option Day → List (Bool × Refusal)
report_tests reference reports report day =
    (is_other_day report.day day, WrongDay)
    ∷ (not (is_instrument reference report.symbol), UnknownInstrument)
    ∷ (is_none (account_row reference report.account), UnknownAccount)
    ∷ (is_another_firms reference report.account report.firm, NotYours)
    ∷ (has_report reports report.firm report.id, DuplicateId)
    ∷ (conflicts (with_match report.match_id reports) report, MatchConflict)
    ∷ []

-- the tests that refuse a claim for lack of room: one for each key of a path, if it has less room than these lots
abbrev pub room_tests : (LimitKey → ℕ) → ℕ → List LimitKey → List (Bool × Refusal)
room_tests room lots path = map (λ key. (nat_lt (room key) lots, LimitReached key)) path

-- all that answers depend on: the open day, the reports, the offers as they are now, the give-ups so far, and the room under each key
pub record State : Type 0 where
  pub today : Option Day
  pub reports : List Report
  pub offers : List Row
  pub has_give_up : FirmId → Id → Bool
  pub room : Group → LimitKey → ℕ

-- the state that a history leads to
abbrev pub state_of : Tables → List Entry → State
state_of reference history =
    record {
      today = open_day history;
      reports = reports_of history;
      offers = standing_of history;
      has_give_up = has_give_up history;
      room = room_of reference history;
    }

-- the product group of a report's instrument
abbrev pub group_of : Tables → Report → Option Group
group_of reference report = option_map (λ (i : Instrument). i.group) (instrument_row reference report.symbol)

-- the account in one of the lines isn't in the reference
abbrev pub has_unknown_account : Tables → List Line → Bool
has_unknown_account reference lines = list_any (λ (l : Line). is_none (account_row reference l.account)) lines

-- the firm has no agreement for the account in one of the lines
abbrev pub lacks_agreement : Tables → FirmId → List Line → Bool
lacks_agreement reference firm lines = list_any (λ (l : Line). is_none (agreement_between reference firm l.account)) lines

-- out of this number of lots of a firm's report, those that may still be given up
abbrev pub free_lots : List Row → FirmId → Id → ℕ → ℕ
free_lots offers firm id lots = lots - counted_under offers firm id

-- the tests for giving up a firm's report, as it is now, in this group
abbrev pub tests_of_lines : Tables → List Row → FirmId → Id → Standing → Group → List Line → List (Bool × Refusal)
tests_of_lines reference offers firm id standing group lines =
    (not standing.is_of_trade, NotMatched)
    ∷ (lacks_agreement reference firm lines, NoAgreement)
    ∷ (nat_lt (free_lots offers firm id standing.terms.lots) (lots_in_all lines), TooManyLots)
    ∷ (nat_lt 4096 (open_count offers group + length lines), TooManyOffers)
    ∷ []

-- the tests for giving up this report in this group
abbrev pub lines_tests : Tables → State → Report → Group → List Line → List (Bool × Refusal)
lines_tests reference state report group lines = tests_of_lines reference state.offers report.firm report.id (standing_in state.reports report) group lines

-- the tests for a give-up; the report is the firm's own, and the group is that of its instrument
abbrev pub give_up_tests : Tables → State → FirmId → Id → List Line → Option (Report × Group) → List (Bool × Refusal)
give_up_tests reference state firm id lines given =
    (is_none state.today, NoDay)
    ∷ (has_unknown_account reference lines, UnknownAccount)
    ∷ (state.has_give_up firm id, DuplicateId)
    ∷ (is_none given, UnknownTrade)
    ∷ option_map_or (λ g. lines_tests reference state g.0 g.1 lines) given []

-- the firm's report with this id, and the group of its instrument
abbrev pub given_up : Tables → State → FirmId → Id → Option (Report × Group)
given_up reference state firm report =
    option_and_then (λ r. option_map (λ group. (r, group)) (group_of reference r)) (report_by state.reports firm report)

-- the tests for every carrying firm's response to an offer: a day is open, the offer isn't to another firm's account, and it exists
abbrev pub offer_tests : Tables → State → FirmId → ℕ → List (Bool × Refusal)
offer_tests reference state firm n =
    (is_none state.today, NoDay)
    ∷ (option_map_or (λ (row : Row). is_another_firms reference row.offer.account firm) (row_at state.offers n) false, NotYours)
    ∷ (is_none (row_at state.offers n), UnknownOffer)
    ∷ []

-- the further tests for a claim: lots are left, and each key on the path has room for them, in the order of the path
abbrev pub claim_tests : Tables → State → ℕ → List (Bool × Refusal)
claim_tests reference state n =
    (left_in state.offers n == 0, OfferClosed)
    ∷ option_map_or
    (λ (row : Row). room_tests (state.room row.offer.group) (left_in state.offers n) (path_after reference row.offer))
    (row_at state.offers n)
    []

-- the further test for a refusal: lots are left
abbrev pub refuse_tests : State → ℕ → List (Bool × Refusal)
refuse_tests state n = (left_in state.offers n == 0, OfferClosed) ∷ []

-- the further tests for a reversal: nothing is left, and something was moved since the day was opened
abbrev pub reverse_tests : State → ℕ → List (Bool × Refusal)
reverse_tests state n = (nat_lt 0 (left_in state.offers n), OfferOpen) ∷ (today_in state.offers n == 0, NothingToReverse) ∷ []

-- the tests for a report as a firm submits it, made on the open day if there is one
abbrev pub side_tests : Tables → State → ReportSideOf → List (Bool × Refusal)
side_tests reference state r =
    (is_none state.today, NoDay) ∷ option_map_or (λ today. report_tests reference state.reports (made_on today r) r.day) state.today []

-- the tests for a command, in order
abbrev pub tests_of : Tables → State → Command → List (Bool × Refusal)
tests_of reference state (OpenDay opening) = opening_tests state.today opening.day
tests_of reference state (SetLimit limit) = limit_tests reference limit.group limit.key limit.lots
tests_of reference state (ReportSide report) = side_tests reference state report
tests_of reference state (GiveUp give_up) = give_up_tests reference state give_up.firm give_up.id give_up.lines (given_up reference state give_up.firm give_up.report)
tests_of reference state (Claim claim) = offer_tests reference state claim.firm claim.offer ++ claim_tests reference state claim.offer
tests_of reference state (Refuse refusal) = offer_tests reference state refusal.firm refusal.offer ++ refuse_tests state refusal.offer
tests_of reference state (Reverse reversal) = offer_tests reference state reversal.firm reversal.offer ++ reverse_tests state reversal.offer

-- the effect of a command if no test holds. (A give-up without a report, for which there is no group, is refused by a test.)
abbrev pub done_of : Tables → State → Command → Done
done_of reference state (OpenDay opening) = Opened
done_of reference state (SetLimit limit) = LimitSet
done_of reference state (ReportSide report) = Reported (is_waiting (with_match report.match_id state.reports))
done_of reference state (GiveUp give_up) =
    option_map_or (λ g. Offered g.1 (length state.offers + 1) (length give_up.lines)) (given_up reference state give_up.firm give_up.report) Opened
done_of reference state (Claim claim) = Claimed (left_in state.offers claim.offer)
done_of reference state (Refuse refusal) = Refused (left_in state.offers refusal.offer)
done_of reference state (Reverse reversal) = Reversed (today_in state.offers reversal.offer)

-- the answer to a command in this state
abbrev pub answer_in : Tables → State → Command → Reply
answer_in reference state command = first_standing (tests_of reference state command) (done_of reference state command)

-- the answer to a command after these entries
abbrev pub answer : Tables → List Entry → Command → Reply
answer reference history command = answer_in reference (state_of reference history) command
