use Rattle.std.proofs.Common.{◌++◌, length}
use Rattle.gu_console.proofs.ServedLemmas.{IsServedTo}
use Rattle.gu_console.proofs.line_buffer.serve_lines.Given as goal

abbrev pub invariant-lines : goal.invariant-lines
invariant-lines g l =
    IsServedTo g.E.EntryLedger.reference l.fn.operator (l.fn.buffer ++ l.piece) l.fn.output.items l.operator (l.buffer ++ l.left) l.output.items

abbrev pub decreases-lines : goal.decreases-lines
decreases-lines g l = length l.left
