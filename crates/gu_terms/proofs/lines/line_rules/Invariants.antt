use Rattle.std.proofs.Common.{take}
use Rattle.std.specs.Prelude.{All}
use Rattle.gu_terms.specs.Numbers.{IsLots}
use Rattle.gu_terms.proofs.lines.line_rules.Given as goal

-- each line walked has lots in their range
abbrev pub invariant-loop-line : goal.invariant-loop-line
invariant-loop-line l = All (λ x. IsLots x.lots) (take l.line-index l.lines)
