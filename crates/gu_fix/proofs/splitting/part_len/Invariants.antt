use Rattle.std.proofs.Common.{◌+◌, ◌-◌, ◌≤◌, length}
use Rattle.gu_fix.proofs.Ends.{NoneWithin}
use Rattle.gu_fix.proofs.splitting.part_len.Given as goal

abbrev pub invariant-stretches : goal.invariant-stretches
invariant-stretches l = record {
  low : l.start ≤ l.place;
  within : l.place ≤ length l.bytes;
  none : NoneWithin l.bytes l.start (l.place + 16);
}

abbrev pub decreases-stretches : goal.decreases-stretches
decreases-stretches l = length l.bytes - l.place
