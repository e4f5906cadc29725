-- How the reports with one match id make a trade.
use Rattle.std.specs.Prelude.{◌==◌, ◌&&◌, Bool, true, false, not, nat_le, List, [], ◌∷◌, length}
use Rattle.std.specs.Ordering.{int_eq}
use Rattle.gu_terms.specs.declared.report.Report.{Report}
use Rattle.gu_terms.specs.Same.{same_symbol, same_day, same_side}
use Rattle.gu_trades.specs.declared.matching.Matching.{Matching}
use Rattle.gu_trades.specs.declared.matching.Matching.TheVariants.{Opened, Matched}
use Rattle.gu_trades.specs.declared.terms.Terms.{Terms}
use Rattle.gu_trades.specs.Reports.{with_match}
use Rattle.gu_trades.specs.Terms.{terms_of}

-- these are the terms of the two sides of one trade: same instrument, lots, price and day, opposite sides
abbrev pub have_other_sides : Terms → Terms → Bool
have_other_sides first second =
    same_symbol first.symbol second.symbol
    && first.lots == second.lots
    && int_eq first.price second.price
    && same_day first.day second.day
    && not (same_side first.side second.side)

-- two reports are each other's other side, by their terms
abbrev pub is_other_side : Report → Report → Bool
is_other_side first second = have_other_sides (terms_of first) (terms_of second)

-- the reports with a match id conflict with a new one: there are at least two, or one that isn't its other side
abbrev pub conflicts : List Report → Report → Bool
conflicts [] new = false
conflicts (first ∷ []) new = not (is_other_side first new)
conflicts (first ∷ second ∷ more) new = true

-- the effect of a new report if these have its match id: it opens if there are none, and is matched otherwise
abbrev pub matching_of : List Report → Matching
matching_of [] = Opened
matching_of (first ∷ more) = Matched

-- there is exactly one report with a match id, which waits for its other side
abbrev pub is_waiting : List Report → Bool
is_waiting reports = length reports == 1

-- there are at least two reports with a match id, which make a trade
abbrev pub is_trade : List Report → Bool
is_trade reports = nat_le 2 (length reports)

-- a report is a side of a trade: at least two reports have its match id
abbrev pub is_of_trade : List Report → Report → Bool
is_of_trade reports r = is_trade (with_match r.match_id reports)
