-- Rules of all accepted reports.
use Rattle.std.specs.Prelude.{◌≡◌, ◌&&◌, Bool, true, false, List, [], ◌∷◌}
use Rattle.std.specs.List.{IsDistinct}
use Rattle.gu_terms.specs.declared.id.Id.{Id}
use Rattle.gu_terms.specs.declared.report.Report.{Report}
use Rattle.gu_terms.specs.Same.{same_firm, same_id}
use Rattle.gu_trades.specs.Matching.{is_other_side}
use Rattle.gu_trades.specs.Reports.{with_match}

-- two reports have the same firm and the same id
abbrev pub same_report : Report → Report → Bool
same_report a b = same_firm a.firm b.firm && same_id a.id b.id

-- there is no report, or one, or two of which each is the other's other side
abbrev pub are_sides : List Report → Bool
are_sides [] = true
are_sides (report ∷ []) = true
are_sides (first ∷ second ∷ []) = is_other_side first second
are_sides (first ∷ second ∷ third ∷ more) = false

-- the rules: no two reports of a firm have the same id, and the reports with one match id are at most the two sides of one trade
pub record IsSound (reports : List Report) : Type 0 where
  pub once : IsDistinct same_report reports
  pub sides : (match_id : Id) → are_sides (with_match match_id reports) ≡ true
