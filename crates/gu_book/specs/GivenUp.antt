-- Machinery: what was given up of each report, by its number.
use Rattle.std.specs.Prelude.{◌≡◌, ℕ, List, map, slice_get, slice_index, Option, Some}
use Rattle.std.specs.Option.{option_map, option_map_or}
use Rattle.gu_terms.specs.declared.firm.FirmId.{FirmId}
use Rattle.gu_terms.specs.declared.id.Id.{Id}
use Rattle.gu_terms.specs.declared.report.Report.{Report}
use Rattle.gu_offers.specs.Rows.{Row, counted_under}
use Rattle.gu_book.specs.declared.given_up.GivenUp.{GivenUp}

-- the firm and the id of a report
abbrev pub names_of : Report → FirmId × Id
names_of r = (r.firm, r.id)

-- the firm and the id of the report with this number, if there is one
abbrev pub names_at : List Report → ℕ → Option (FirmId × Id)
names_at trades number = option_map names_of (slice_get trades number)

-- the firm and the id of the report that an offer gives up
abbrev pub names_given : Row → FirmId × Id
names_given row = (row.offer.firm, row.offer.report)

-- the lots of the report with this number that are held by its offers; 0 if there is no report
abbrev pub lots_held : List Report → List Row → ℕ → ℕ
lots_held trades offers number = option_map_or (λ (r : Report). counted_under offers r.firm r.id) (slice_get trades number) 0

-- each offer gives up the report with the number beside it, and the lots beside each report are those that its offers hold
pub record AreGivenUp (trades : List Report) (offers : List Row) (given_up : GivenUp) : Type 0 where
  pub own : map (names_at trades) given_up.report_of.items ≡ map (λ row. Some (names_given row)) offers
  pub held : (number : ℕ) → slice_index given_up.lots.items number ≡ lots_held trades offers number
