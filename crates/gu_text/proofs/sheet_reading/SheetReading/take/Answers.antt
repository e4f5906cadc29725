use Rattle.std.proofs.Common.{Err, ap, subst}
use Rattle.gu_text.specs.LineFeeds.{HasNoLineFeed}
use Rattle.gu_text.specs.SheetPieces.{SheetPlace}
use Rattle.gu_text.specs.declared.error.TextError.TheVariants.{BadLine}
use Rattle.gu_text.proofs.PieceLemmas.{taking_bad, taking_kept, taking_line, taking_long, taking_none}
use Rattle.gu_text.proofs.SheetLemmas.{on_ok_then, passed}
use Rattle.gu_text.proofs.sheet_reading.SheetReading.take.Goals as goal

pub lines-init : goal.lines-init
lines-init c = taking_none c.args.self.now c.args.piece.now (subst (λ (p : SheetPlace). HasNoLineFeed p.rest) c.self.view_is c.self.invariant.0)

pub lines-preserved : goal.lines-preserved
lines-preserved c =
    taking_line c.args.self.now c.lines.self c.end_line.new.self c.args.piece.now c.lines.left.now c.in-Some.part.now c.in-Some.after.now c.lines.invariant c.in-Some.ensures
    c.in_ok-end_line.ensures.read c.in_ok-end_line.ensures.counted c.in_ok-end_line.ensures.done

pub returns-in_err-end_line-clause-bad : goal.returns-in_err-end_line-clause-bad
returns-in_err-end_line-clause-bad c n is =
    let error = ap Err (passed c.from_residual.result c.in_err-end_line.field-0.0 (BadLine n) c.from_residual.ensures.1 is) in
    taking_bad c.args.self.now c.lines.self c.args.piece.now c.lines.left.now c.in-Some.part.now c.in-Some.after.now n c.lines.invariant c.in-Some.ensures
    (c.in_err-end_line.ensures.bad n error) (c.in_err-end_line.ensures.number n error)

pub returns-clause-read : goal.returns-clause-read
returns-clause-read c = on_ok_then c.keep.result (taking_kept c.args.self.now c.lines.self c.keep.new.self c.args.piece.now c.lines.left.now c.lines.invariant) c.keep.ensures.kept

pub returns-clause-bad : goal.returns-clause-bad
returns-clause-bad c n is =
    taking_long c.args.self.now c.lines.self c.args.piece.now c.lines.left.now n c.lines.invariant c.in_default.ensures (c.keep.ensures.long n is) (c.keep.ensures.number n is)
