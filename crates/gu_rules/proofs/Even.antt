-- As many lots are held long as short once both sides of a trade exist.
use Rattle.gu_rules.proofs.Words.{◌≡◌, ℕ, ◌+◌, Bool, ◌==◌, not, true, false, refl, arith, Decides-eqb, same_day, same_side, same_symbol, Report, Side, Buy, Sell, Symbol, same_symbol-true, both, lots_at_side, is_other_side}
use Rattle.std.specs.Ordering.{int_eq}

-- lots of both sides of one instrument count equally on either
pub sides-even : (one other : Side) (symbol on : Symbol) (lots : ℕ) → same_side one other ≡ false
    → lots_at_side one symbol lots Buy on + lots_at_side other symbol lots Buy on ≡ lots_at_side one symbol lots Sell on + lots_at_side other symbol lots Sell on
sides-even Buy Buy symbol on lots apart = cc
sides-even Buy Sell symbol on lots apart = omega arith
sides-even Sell Buy symbol on lots apart = omega arith
sides-even Sell Sell symbol on lots apart = cc

-- the other side of a report has its instrument, its lots, and the opposite side
pub other-side : (first second : Report) → is_other_side first second ≡ true → (first.symbol ≡ second.symbol) × ((first.lots ≡ second.lots) × (same_side first.side second.side ≡ false))
other-side first second is =
    let a = both _ (not (same_side first.side second.side)) is in
    let b = both _ (same_day first.day second.day) a.0 in
    let c = both _ (int_eq first.price second.price) b.0 in
    let d = both (same_symbol first.symbol second.symbol) (first.lots == second.lots) c.0 in
    (same_symbol-true first.symbol second.symbol d.0, ((Decides-eqb first.lots second.lots).0 d.1, off (same_side first.side second.side) a.1))
  where
    off : (b : Bool) → not b ≡ true → b ≡ false
    off true h = cc
    off false h = refl

-- it has as many lots
pub as-many : (waiting report : Report) → is_other_side waiting report ≡ true → waiting.lots ≡ report.lots
as-many waiting report is = (other-side waiting report is).1.0
