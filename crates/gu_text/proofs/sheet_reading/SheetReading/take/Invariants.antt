use Rattle.std.proofs.Common.{length}
use Rattle.gu_text.proofs.PieceLemmas.{Taking}
use Rattle.gu_text.proofs.sheet_reading.SheetReading.take.Given as goal

abbrev pub invariant-lines : goal.invariant-lines
invariant-lines l = Taking l.initial.self l.piece l.self l.left

abbrev pub decreases-lines : goal.decreases-lines
decreases-lines l = length l.left
