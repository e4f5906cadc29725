-- Positions: the lots that an account holds in an instrument.
use Rattle.std.specs.Prelude.{◌≡◌, ℕ, ◌+◌, ◌-◌, ◌==◌, ◌&&◌, Bool, false, List, Option, Some, None, sum_by, if◌then◌else◌}
use Rattle.std.specs.List.{filter_map}
use Rattle.std.specs.Option.{option_map_or}
use Rattle.gu_terms.specs.declared.account.AccountId.{AccountId}
use Rattle.gu_terms.specs.declared.side.Side.{Side}
use Rattle.gu_terms.specs.declared.side.Side.TheVariants.{Buy, Sell}
use Rattle.gu_terms.specs.declared.symbol.Symbol.{Symbol}
use Rattle.gu_terms.specs.declared.report.Report.{Report}
use Rattle.gu_terms.specs.declared.entry.Entry.{Entry}
use Rattle.gu_trades.specs.Matching.{is_of_trade}
use Rattle.gu_terms.specs.Same.{same_account, same_firm, same_side, same_symbol}
use Rattle.gu_terms.specs.declared.firm.FirmId.{FirmId}
use Rattle.gu_terms.specs.declared.query.PositionRow.{PositionRow}
use Rattle.gu_ref.specs.Reference.{account_row}
use Rattle.gu_ref.specs.Tables.{Tables}
use Rattle.gu_ref.specs.declared.instruments.Instrument.{Instrument}
use Rattle.gu_ref.specs.declared.accounts.Account.{Account}
use Rattle.gu_trades.specs.Reports.{report_by}
use Rattle.gu_offers.specs.Rows.{Row}
use Rattle.gu_rules.specs.BookState.{BookState}
use Rattle.gu_rules.specs.Offers.{standing_of}
use Rattle.gu_rules.specs.Reports.{reports_of}

-- the lots that a report brings to an account on one side of an instrument: its own, once it is a side of a trade
abbrev pub brought : List Report → Side → AccountId → Symbol → Report → ℕ
brought reports side account symbol r =
    if same_side r.side side && same_account r.account account && same_symbol r.symbol symbol && is_of_trade reports r then r.lots else 0

-- the lots that the trades among these reports bring to an account on one side of an instrument
abbrev pub traded : List Report → Side → AccountId → Symbol → ℕ
traded reports side account symbol = sum_by (brought reports side account symbol) reports

-- the report that an offer gives up
abbrev pub report_after : List Report → Row → Option Report
report_after reports row = report_by reports row.offer.firm row.offer.report

-- an offer gives up a report on this side of this instrument
abbrev pub is_on : List Report → Side → Symbol → Row → Bool
is_on reports side symbol row = option_map_or (λ (r : Report). same_side r.side side && same_symbol r.symbol symbol) (report_after reports row) false

-- an offer gives up a report for this account
abbrev pub is_from : List Report → AccountId → Row → Bool
is_from reports account row = option_map_or (λ (r : Report). same_account r.account account) (report_after reports row) false

-- the lots moved into an account, on one side of an instrument
abbrev pub moved_into : List Report → List Row → Side → AccountId → Symbol → ℕ
moved_into reports rows side account symbol =
    sum_by (λ (row : Row). if is_on reports side symbol row && same_account row.offer.account account then row.moved else 0) rows

-- the lots moved out of an account, on one side of an instrument
abbrev pub moved_out : List Report → List Row → Side → AccountId → Symbol → ℕ
moved_out reports rows side account symbol =
    sum_by (λ (row : Row). if is_on reports side symbol row && is_from reports account row then row.moved else 0) rows

-- the lots held there: those traded and moved in, less those moved out
abbrev pub held_in : List Report → List Row → Side → AccountId → Symbol → ℕ
held_in reports rows side account symbol =
    traded reports side account symbol + moved_into reports rows side account symbol - moved_out reports rows side account symbol

-- the lots that an account holds on one side of an instrument
abbrev pub held_of : List Entry → Side → AccountId → Symbol → ℕ
held_of history side account symbol = held_in (reports_of history) (standing_of history) side account symbol

-- the lots that an account holds long in an instrument
abbrev pub long_of : List Entry → AccountId → Symbol → ℕ
long_of history account symbol = held_of history Buy account symbol

-- the lots that an account holds short in an instrument
abbrev pub short_of : List Entry → AccountId → Symbol → ℕ
short_of history account symbol = held_of history Sell account symbol

-- the row of an instrument: the lots long and short, if there are any
abbrev pub row_of_lots : Symbol → ℕ → ℕ → Option PositionRow
row_of_lots symbol long short = if long == 0 && short == 0 then None else Some (record { symbol = symbol; long = long; short = short })

-- all positions of an account, in the order of the reference's instruments
abbrev pub position_rows : BookState → AccountId → List PositionRow
position_rows book account =
    filter_map (λ (i : Instrument). row_of_lots i.symbol (long_of book.history account i.symbol) (short_of book.history account i.symbol)) book.reference.instruments

-- the account is in the reference and is this firm's
abbrev pub is_of_firm : Tables → FirmId → AccountId → Bool
is_of_firm reference firm account = option_map_or (λ row. same_firm row.firm firm) (account_row reference account) false

-- the open interest of an instrument: the sum, over the reference's accounts, of the excess of long lots over short ones
abbrev pub open_interest_of : BookState → Symbol → ℕ
open_interest_of book symbol =
    sum_by (λ (a : Account). long_of book.history a.account symbol - short_of book.history a.account symbol) book.reference.accounts

-- over the reference's accounts, as many lots of each instrument are held long as short
abbrev pub LongIsShort : BookState → Type 0
LongIsShort book =
    (symbol : Symbol)
    → sum_by (λ (a : Account). long_of book.history a.account symbol) book.reference.accounts
    ≡ sum_by (λ (a : Account). short_of book.history a.account symbol) book.reference.accounts
