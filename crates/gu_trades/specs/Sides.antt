-- The reports with a match id, as a list.
use Rattle.std.specs.Prelude.{List, [], ◌∷◌}
use Rattle.gu_terms.specs.declared.report.Report.{Report}
use Rattle.gu_trades.specs.declared.sides.Sides.{Sides}
use Rattle.gu_trades.specs.declared.sides.Sides.TheVariants.{Neither, One, Both}

-- the reports, in order
abbrev pub reports_in : Sides → List Report
reports_in Neither = []
reports_in (One report) = report ∷ []
reports_in (Both first second) = first ∷ second ∷ []
