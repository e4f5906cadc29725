use Rattle.gu_offers.proofs.Words.{ℕ, ◌<◌, get_or, Line}
use Rattle.gu_terms.specs.Numbers.{IsLots}
use Rattle.gu_offers.proofs.offers.are_lots.Given as goal

abbrev pub invariant-loop-line : goal.invariant-loop-line
invariant-loop-line l = (k : ℕ) (d : Line) → k < l.line-index → IsLots (get_or l.lines k d).lots
