use Rattle.std.proofs.Common.{◌≡◌, ◌-◌, ◌%◌, ◌<◌, ◌≤◌, length}
use Rattle.std.specs.Prelude.{slice_index}
use Rattle.gu_trades.specs.Numbered.{has_number, last_before}
use Rattle.gu_trades.specs.HashIndex.{numbers_of}
use Rattle.gu_trades.proofs.hash_index.along.Given as goal

abbrev pub invariant-loop-at : goal.invariant-loop-at
invariant-loop-at l =
    (last_before (has_number (numbers_of l.links) l.number) l.from ≡ last_before (has_number (numbers_of l.links) l.number) l.at)
    × (l.at ≤ length l.links)
    × (0 < l.at → slice_index (numbers_of l.links) (l.at - 1) % l.rows ≡ l.number % l.rows)

abbrev pub decreases-loop-at : goal.decreases-loop-at
decreases-loop-at l = l.at
