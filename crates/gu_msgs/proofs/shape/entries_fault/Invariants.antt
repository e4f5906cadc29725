use Rattle.gu_msgs.proofs.Words.{◌≡◌, length, entries_by, entries_fault}
use Rattle.gu_msgs.proofs.shape.entries_fault.Given as goal

abbrev pub invariant-loop-entry : goal.invariant-loop-entry
invariant-loop-entry l = entries_fault l.rows (entries_by l.first l.group) ≡ entries_fault l.rows (entries_by l.first l.rest)

abbrev pub decreases-loop-entry : goal.decreases-loop-entry
decreases-loop-entry l = length (entries_by l.first l.rest)
