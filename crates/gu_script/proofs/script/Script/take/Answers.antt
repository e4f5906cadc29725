use Rattle.gu_script.proofs.Words.{Err, ap, subst, HasNoLineFeed, Place}
use Rattle.gu_script.proofs.ReplayPieces.{piece_kept, piece_refused, taking_line, taking_none}
use Rattle.gu_script.proofs.script.Script.take.Goals as goal

pub lines-init : goal.lines-init
lines-init g c = taking_none c.args.self.now c.args.piece.now c.args.output.now.items (subst (λ (p : Place). HasNoLineFeed p.rest) c.self.view_is c.self.invariant)

pub lines-preserved : goal.lines-preserved
lines-preserved g c =
    taking_line c.args.self.now c.lines.self c.end_line.new.self c.args.piece.now c.lines.left.now c.in-Some.part.now c.in-Some.after.now c.args.output.now.items c.lines.output.items c.end_line.new.output.items
    c.lines.invariant c.in-Some.ensures c.in_ok-end_line.ensures.answered c.in_ok-end_line.ensures.counted c.in_ok-end_line.ensures.done

pub returns-in_err-end_line-clause-answered : goal.returns-in_err-end_line-clause-answered
returns-in_err-end_line-clause-answered g c =
    piece_refused c.from_residual.result c.in_err-end_line.field-0.0 c.args.self.now c.lines.self c.end_line.new.self c.args.piece.now c.lines.left.now c.in-Some.part.now c.in-Some.after.now c.args.output.now.items
    c.lines.output.items c.end_line.new.output.items c.from_residual.ensures.1 c.lines.invariant c.in-Some.ensures (λ n is. c.in_err-end_line.ensures.bad n (ap Err is))

pub returns-clause-answered : goal.returns-clause-answered
returns-clause-answered g c =
    piece_kept c.keep.result c.args.self.now c.lines.self c.keep.new.self c.args.piece.now c.lines.left.now c.args.output.now.items c.lines.output.items c.lines.invariant c.in_default.ensures c.keep.ensures.kept c.keep.ensures.bad
