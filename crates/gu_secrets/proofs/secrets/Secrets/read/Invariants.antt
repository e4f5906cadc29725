use Rattle.std.proofs.Common.{◌≡◌, ◌+◌, ◌≤◌, ◌++◌, not, length}
use Rattle.std.specs.List.{filter_map, position_from}
use Rattle.std.specs.Str.Lines.{lines}
use Rattle.gu_secrets.specs.Secrets.{first_bad, is_good, row_of, rows_in}
use Rattle.gu_secrets.proofs.secrets.Secrets.read.Given as goal

abbrev pub invariant-loop-line : goal.invariant-loop-line
invariant-loop-line l = record {
  ahead : first_bad l.firms l.text ≡ position_from (λ line. not (is_good l.firms line)) (l.number + 1) (lines l.rest);
  rows : rows_in l.firms l.text ≡ l.secrets ++ filter_map (row_of l.firms) (lines l.rest);
  few : l.number + length l.rest ≤ length l.text;
}

abbrev pub decreases-loop-line : goal.decreases-loop-line
decreases-loop-line l = length l.rest
