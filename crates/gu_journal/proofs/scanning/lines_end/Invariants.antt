use Rattle.std.proofs.Common.{◌≡◌, ◌≤◌, length, take}
use Rattle.gu_journal.specs.Text.{whole_lines}
use Rattle.gu_journal.proofs.scanning.lines_end.Given as goal

abbrev pub decreases-bytes : goal.decreases-bytes
decreases-bytes l = l.end

abbrev pub invariant-bytes : goal.invariant-bytes
invariant-bytes l = record { within : l.end ≤ length l.text; lines : whole_lines l.text ≡ whole_lines (take l.end l.text) }
