use Rattle.std.proofs.Common.{◌≡◌, length, take}
use Rattle.gu_trades.specs.HashIndex.{numbers_of, EndsRows, IsLinked}
use Rattle.gu_trades.proofs.hash_index.link_all.Given as goal

abbrev pub invariant-loop-place : goal.invariant-loop-place
invariant-loop-place l = record {
  numbers : numbers_of l.links ≡ numbers_of l.fn.links;
  rows : length l.last ≡ length l.initial.last;
  linked : IsLinked (take l.place l.links) (length l.last);
  ends : EndsRows (take l.place l.links) l.last;
}
