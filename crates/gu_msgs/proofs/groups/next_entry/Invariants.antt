use Rattle.gu_msgs.proofs.Words.{◌≡◌, entries_by}
use Rattle.gu_msgs.proofs.groups.next_entry.Given as goal

abbrev pub invariant-loop-field : goal.invariant-loop-field
invariant-loop-field l = record {
  same : entries_by l.first l.fn.rest ≡ entries_by l.first l.rest;
  ahead : l.here ≡ l.rest;
}
