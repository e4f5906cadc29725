use Rattle.gu_book.proofs.Words.{◌≡◌, ◌+◌, ◌-◌, ◌≤◌, ◌++◌}
use Rattle.std.specs.Prelude.{replicate, vec_capacity, vec_len}
use Rattle.gu_book.proofs.given_up.push_copies.Given as goal

abbrev pub invariant-loop-copy : goal.invariant-loop-copy
invariant-loop-copy g l = record {
  copies : l.list.items ≡ l.fn.list.items ++ replicate l._copy l.item;
  room : vec_len l.list + (l.count - l._copy) ≤ vec_capacity l.list;
}
