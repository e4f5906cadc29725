use Rattle.std.proofs.Common.{◌≡◌, ◌+◌, ◌++◌, drop}
use Rattle.gu_msgs.specs.Answering.{reports_from}
use Rattle.gu_msgs.proofs.answering.push_reports.Given as goal

abbrev pub invariant-loop-row : goal.invariant-loop-row
invariant-loop-row l = record {
  counted : l.place ≡ l.row-index + 1;
  so_far : l.bodies.items ++ reports_from l.question l.day l.place (drop l.row-index l.rows) ≡ l.fn.bodies.items ++ reports_from l.question l.day 1 l.rows;
}
