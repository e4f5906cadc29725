-- Facts about every legal history.
use Rattle.std.specs.Prelude.{◌≡◌, ℕ, ◌*◌, ◌<◌, ◌≤◌, true, false, List, length, sum_by, Some, is_some, if◌then◌else◌}
use Rattle.std.specs.List.{AllByRecursion}
use Rattle.gu_terms.specs.declared.entry.Entry.{Entry}
use Rattle.gu_terms.specs.declared.report.Report.{Report}
use Rattle.gu_terms.specs.declared.group.Group.{Group}
use Rattle.gu_ref.specs.Reference.{agreement_between}
use Rattle.gu_ref.specs.Tables.{Tables}
use Rattle.gu_trades.specs.Matching.{is_of_trade}
use Rattle.gu_trades.specs.Reports.{report_by}
use Rattle.gu_offers.specs.Rows.{Row, counted_under, open_count}
use Rattle.gu_rules.specs.Offers.{given_back_by, is_shut, moved_of, offers_of, standing_of, taken_by}
use Rattle.gu_rules.specs.Positions.{report_after}
use Rattle.gu_rules.specs.Reports.{entries_today, reports_of}

-- for each offer, no more was given back than was taken, over all entries and over today's; and no more was moved today than in all
pub record IsBalanced (history : List Entry) : Type 0 where
  pub all : (n : ℕ) → sum_by (given_back_by n) history ≤ sum_by (taken_by n) history
  pub today : (n : ℕ) → sum_by (given_back_by n) (entries_today history) ≤ sum_by (taken_by n) (entries_today history)
  pub within : (n : ℕ) → moved_of (entries_today history) n ≤ moved_of history n

-- no entry takes from or closes an offer that doesn't exist
pub record IsNamed (history : List Entry) : Type 0 where
  pub takes : (n : ℕ) → length (offers_of history) < n → sum_by (taken_by n) history ≡ 0
  pub today : (n : ℕ) → length (offers_of history) < n → sum_by (taken_by n) (entries_today history) ≡ 0
  pub closed : (n : ℕ) → length (offers_of history) < n → is_shut history n ≡ false

-- the lots of a report that may be given up: its own, once it is a side of a trade, else 0
abbrev pub lots_traded : List Report → Report → ℕ
lots_traded reports r = if is_of_trade reports r then r.lots else 0

-- no more of a report is given up than it traded
abbrev pub IsCovered : List Report → List Row → Type 0
IsCovered reports rows = AllByRecursion (λ r. counted_under rows r.firm r.id ≤ lots_traded reports r) reports

-- each offer gives up a report that exists
abbrev pub AreFound : List Report → List Row → Type 0
AreFound reports rows = AllByRecursion (λ row. is_some (report_after reports row) ≡ true) rows

-- no more of an offer was moved than it has
abbrev pub AreWithin : List Row → Type 0
AreWithin rows = AllByRecursion (λ (r : Row). r.moved ≤ r.offer.lots) rows

-- looking up each report's firm and id finds that report
abbrev pub AreOwn : List Report → Type 0
AreOwn reports = AllByRecursion (λ (q : Report). report_by reports q.firm q.id ≡ Some q) reports

-- no subtraction truncates, no entry uses an offer that doesn't exist yet, no more of a report is given up than it traded, each offer gives
-- up a report that exists, no more of an offer was moved than it has, each report is found by its firm and id, at most 16 offers an entry
pub record IsOrderly (history : List Entry) : Type 0 where
  pub balanced : IsBalanced history
  pub named : IsNamed history
  pub covered : IsCovered (reports_of history) (standing_of history)
  pub found : AreFound (reports_of history) (standing_of history)
  pub within : AreWithin (standing_of history)
  pub own : AreOwn (reports_of history)
  pub few : length (offers_of history) ≤ 16 * length history

-- no product group has more than 4,096 open offers
abbrev pub AreFew : List Row → Type 0
AreFew rows = (group : Group) → open_count rows group ≤ 4096

-- each offer was made under an agreement
abbrev pub AreAgreed : Tables → List Row → Type 0
AreAgreed reference rows = AllByRecursion (λ (r : Row). is_some (agreement_between reference r.offer.firm r.offer.account) ≡ true) rows

-- no group has more than 4,096 open offers, and each offer was made under an agreement
pub record IsShown (reference : Tables) (rows : List Row) : Type 0 where
  pub few : AreFew rows
  pub agreed : AreAgreed reference rows
