use Rattle.gu_limits.proofs.Words.{◌≡◌, ℕ, ◌<◌, None, length, nat_lt, slice_get, slice_index, take, option_map_or, number_in, room_in}
use Rattle.std.proofs.Common.{find}
use Rattle.gu_limits.proofs.table.LimitTable.limits_with_room.Given as goal

abbrev pub invariant-loop-at : goal.invariant-loop-at
invariant-loop-at l = record {
  count : length l.limits.numbers ≡ 5;
  found : (place : ℕ) → place < 5 → slice_index l.limits.numbers place ≡ option_map_or (number_in l.self l.group) (slice_get (take l.at l.key-items) place) 0;
  room : find (λ key. nat_lt (room_in l.self l.group key) l.lots) (take l.at l.key-items) ≡ None;
}
