use Rattle.gu_desk.specs.Holds.{Looks}
use Rattle.gu_desk.proofs.desk.Desk.sweep.Given as goal

abbrev pub invariant-loop-again : goal.invariant-loop-again
invariant-loop-again g l = Looks g.E.EntryLedger.reference l.fn.seat l.seat
