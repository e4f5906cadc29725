use Rattle.std.proofs.Common.{◌≡◌, ◌≤◌, length, take}
use Rattle.gu_journal.specs.Text.{used_length}
use Rattle.gu_journal.proofs.scanning.used_len.Given as goal

abbrev pub decreases-bytes : goal.decreases-bytes
decreases-bytes l = l.used

abbrev pub invariant-bytes : goal.invariant-bytes
invariant-bytes l = record { within : l.used ≤ length l.bytes; used : used_length l.bytes ≡ used_length (take l.used l.bytes) }
