-- A new report's counterpart among the accepted ones, and an accepted report's status.
use Rattle.std.specs.Prelude.{List, [], ◌∷◌, if◌then◌else◌}
use Rattle.gu_terms.specs.declared.report.Report.{Report}
use Rattle.gu_trades.specs.declared.counterpart.Counterpart.{Counterpart}
use Rattle.gu_trades.specs.declared.counterpart.Counterpart.TheVariants.{Nobody, Waiting, Conflicting}
use Rattle.gu_trades.specs.declared.standing.Standing.{Standing}
use Rattle.gu_trades.specs.declared.terms.Terms.{Terms}
use Rattle.gu_trades.specs.Matching.{have_other_sides, is_of_trade}
use Rattle.gu_trades.specs.Terms.{terms_of}

-- the counterpart of a new report if these have its match id: nobody, the report that is its other side by its terms, or a conflict
abbrev pub counterpart_of : List Report → Terms → Counterpart
counterpart_of [] terms = Nobody
counterpart_of (first ∷ []) terms = if have_other_sides (terms_of first) terms then Waiting (terms_of first) else Conflicting
counterpart_of (first ∷ second ∷ more) terms = Conflicting

-- a report's status among these: its terms, and whether it is a side of a trade
abbrev pub standing_in : List Report → Report → Standing
standing_in reports r = record { terms = terms_of r; is_of_trade = is_of_trade reports r }
