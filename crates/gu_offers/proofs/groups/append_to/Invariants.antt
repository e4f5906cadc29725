use Rattle.gu_offers.proofs.Words.{◌≡◌, ◌+◌, ◌-◌, ◌≤◌, ◌++◌, vec_len, vec_capacity, range_with_len}
use Rattle.gu_offers.proofs.groups.append_to.Given as goal

abbrev pub invariant-loop-i : goal.invariant-loop-i
invariant-loop-i l = record {
  appended : l.numbers.items ≡ l.fn.numbers.items ++ range_with_len l.first l.i;
  room : vec_len l.numbers + (l.count - l.i) ≤ vec_capacity l.numbers;
}
