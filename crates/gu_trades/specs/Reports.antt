-- The reports that the house accepted, by their firms' ids and by match id.
use Rattle.std.specs.Prelude.{◌&&◌, Bool, List, Option, filter}
use Rattle.std.specs.List.{find, list_any}
use Rattle.gu_terms.specs.declared.account.AccountId.{AccountId}
use Rattle.gu_terms.specs.declared.command.ReportSide.{ReportSide}
use Rattle.gu_terms.specs.declared.day.Day.{Day}
use Rattle.gu_terms.specs.declared.firm.FirmId.{FirmId}
use Rattle.gu_terms.specs.declared.id.Id.{Id}
use Rattle.gu_terms.specs.declared.lots.Lots.{Lots}
use Rattle.gu_terms.specs.declared.price.Price.{Price}
use Rattle.gu_terms.specs.declared.report.Report.{Report}
use Rattle.gu_terms.specs.declared.side.Side.{Side}
use Rattle.gu_terms.specs.declared.symbol.Symbol.{Symbol}
use Rattle.gu_terms.specs.Same.{same_firm, same_id}

-- a report made from its nine parts; the day is the one that was open
abbrev pub report_of : FirmId → Id → Id → Symbol → Lots → Price → Day → Side → AccountId → Report
report_of firm id match_id symbol lots price day side account =
    record {
      firm = firm;
      id = id;
      match_id = match_id;
      symbol = symbol;
      lots = lots;
      price = price;
      day = day;
      side = side;
      account = account;
    }

-- the report that a firm submits, as made on this day
abbrev pub made_on : Day → ReportSide → Report
made_on today r = report_of r.firm r.id r.match_id r.symbol r.lots r.price today r.side r.account

-- the report is this firm's, with this id
abbrev pub is_by : FirmId → Id → Report → Bool
is_by firm id r = same_firm r.firm firm && same_id r.id id

-- the firm has a report with this id
abbrev pub has_report : List Report → FirmId → Id → Bool
has_report reports firm id = list_any (is_by firm id) reports

-- the firm's report with this id
abbrev pub report_by : List Report → FirmId → Id → Option Report
report_by reports firm id = find (is_by firm id) reports

-- the reports with this match id
abbrev pub with_match : Id → List Report → List Report
with_match match_id reports = filter (λ r. same_id r.match_id match_id) reports
