use Rattle.std.specs.Prelude.{length}
use Rattle.gu_server.specs.Receipts.{EndsWith}
use Rattle.gu_server.proofs.closing.apart.Given as goal

abbrev pub invariant-loop-one : goal.invariant-loop-one
invariant-loop-one g l = EndsWith (length g.E.EntryLedger.opening) l.seats.items l.initial.receipts l.receipts
