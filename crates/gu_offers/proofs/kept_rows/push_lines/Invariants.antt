use Rattle.gu_offers.proofs.Words.{◌≡◌, ◌+◌, ◌-◌, ◌≤◌, ◌++◌, length, map, take, vec_len, vec_capacity, kept_for}
use Rattle.gu_offers.proofs.kept_rows.push_lines.Given as goal

abbrev pub invariant-loop-line : goal.invariant-loop-line
invariant-loop-line l = record {
  appended : l.list.items ≡ l.fn.list.items ++ map (kept_for l.shared) (take l.line-index l.lines);
  room : vec_len l.list + (length l.lines - l.line-index) ≤ vec_capacity l.list;
}
