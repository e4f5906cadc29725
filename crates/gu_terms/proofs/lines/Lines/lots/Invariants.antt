use Rattle.std.proofs.Common.{◌≡◌, ◌≤◌, ◌*◌, take}
use Rattle.gu_terms.specs.Lines.{lots_in_all}
use Rattle.gu_terms.proofs.lines.Lines.lots.Given as goal

-- the total is that of the lines walked, none of which has more than 1,000,000 lots
abbrev pub invariant-loop-line : goal.invariant-loop-line
invariant-loop-line l = record {
  total : l.total ≡ lots_in_all (take l.line-index l.line-items);
  few : l.total ≤ l.line-index * 1000000;
}
