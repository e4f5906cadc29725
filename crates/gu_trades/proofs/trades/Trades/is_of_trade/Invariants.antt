use Rattle.std.proofs.Common.{◌≡◌, ◌-◌, ◌<◌, ◌≤◌, ℕ, true, length}
use Rattle.std.specs.Prelude.{slice_index}
use Rattle.gu_trades.specs.Kept.{is_with_at, match_number}
use Rattle.gu_trades.proofs.trades.Trades.is_of_trade.Given as goal

abbrev pub invariant-loop-at : goal.invariant-loop-at
invariant-loop-at l = record {
  others : (other : ℕ) → l.at ≤ other → is_with_at l.self l.match_id other ≡ true → other ≡ l.place;
  within : l.at ≤ length l.self;
  number : 0 < l.at → slice_index l.self-inside.by_match.numbers (l.at - 1) ≡ match_number l.self-inside.seed l.match_id;
}

abbrev pub decreases-loop-at : goal.decreases-loop-at
decreases-loop-at l = l.at
