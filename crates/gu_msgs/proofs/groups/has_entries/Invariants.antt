use Rattle.gu_msgs.proofs.Words.{◌≡◌, ◌==◌, length, entries_by}
use Rattle.gu_msgs.proofs.groups.has_entries.Given as goal

abbrev pub invariant-loop-field : goal.invariant-loop-field
invariant-loop-field l = (l.number == length (entries_by l.first l.fn.group)) ≡ (l.left == length (entries_by l.first l.field-iterator))
