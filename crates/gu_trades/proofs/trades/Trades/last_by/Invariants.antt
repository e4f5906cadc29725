use Rattle.std.proofs.Common.{◌≡◌, ◌-◌, ◌<◌, ◌≤◌, length}
use Rattle.std.specs.Prelude.{slice_index}
use Rattle.gu_trades.specs.Kept.{id_number, is_by_at}
use Rattle.gu_trades.specs.Numbered.{last_before}
use Rattle.gu_trades.proofs.trades.Trades.last_by.Given as goal

abbrev pub invariant-loop-at : goal.invariant-loop-at
invariant-loop-at l = record {
  left : last_before (is_by_at l.self l.firm l.id) (length l.self) ≡ last_before (is_by_at l.self l.firm l.id) l.at;
  within : l.at ≤ length l.self;
  number : 0 < l.at → slice_index l.self-inside.by_id.numbers (l.at - 1) ≡ id_number l.self-inside.seed l.firm l.id;
}

abbrev pub decreases-loop-at : goal.decreases-loop-at
decreases-loop-at l = l.at
