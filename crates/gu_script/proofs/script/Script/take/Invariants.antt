use Rattle.std.proofs.Common.{length}
use Rattle.gu_script.proofs.ReplayPieces.{Taking}
use Rattle.gu_script.proofs.script.Script.take.Given as goal

abbrev pub invariant-lines : goal.invariant-lines
invariant-lines g l = Taking l.initial.self l.piece l.self l.left l.initial.output.items l.output.items

abbrev pub decreases-lines : goal.decreases-lines
decreases-lines g l = length l.left
