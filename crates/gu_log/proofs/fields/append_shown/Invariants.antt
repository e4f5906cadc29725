use Rattle.gu_log.specs.Lines.{Continues}
use Rattle.gu_log.proofs.fields.append_shown.Given as goal

abbrev pub invariant-loop-byte : goal.invariant-loop-byte
invariant-loop-byte l = Continues l.initial.line.items l.line.items
