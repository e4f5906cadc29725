use Rattle.std.proofs.Common.{◌≡◌, ℕ, ◌+◌, ◌-◌, ◌*◌, ◌<◌, length, get_or}
use Rattle.gu_flow.proofs.beginning.lead_back.Given as goal

abbrev pub invariant-loop-number : goal.invariant-loop-number
invariant-loop-number l = record {
  room : length l.way ≡ length l.fn.way;
  ends : (i : ℕ) → i < l.number → get_or l.way i 0 ≡ 2 * get_or l.places (l.count - 1 - i) 0 + 1;
}
