use Rattle.std.proofs.Common.{◌≡◌, ◌-◌, ◌<◌, ◌≤◌, length}
use Rattle.std.specs.Prelude.{slice_index}
use Rattle.gu_trades.specs.Kept.{is_with_at, match_number}
use Rattle.gu_trades.specs.Numbered.{last_before}
use Rattle.gu_trades.proofs.trades.Trades.last_two.Given as goal

abbrev pub invariant-loop-at : goal.invariant-loop-at
invariant-loop-at l = record {
  none : l.last ≡ 0 → last_before (is_with_at l.self l.match_id) (length l.self) ≡ last_before (is_with_at l.self l.match_id) l.at;
  one : 0 < l.last → l.last ≡ last_before (is_with_at l.self l.match_id) (length l.self);
  left : 0 < l.last → last_before (is_with_at l.self l.match_id) (l.last - 1) ≡ last_before (is_with_at l.self l.match_id) l.at;
  within : l.at ≤ length l.self;
  number : 0 < l.at → slice_index l.self-inside.by_match.numbers (l.at - 1) ≡ match_number l.self-inside.seed l.match_id;
}

abbrev pub decreases-loop-at : goal.decreases-loop-at
decreases-loop-at l = l.at
