use Rattle.std.proofs.Common.{◌∙◌, List, ℕ, ap, subst, ◌++◌}
use Rattle.std.specs.Str.Lines.{strip_carriage_return}
use Rattle.gu_console.specs.Answers.{IsAnswered}
use Rattle.gu_console.specs.declared.said.Said.{Said}
use Rattle.gu_console.proofs.ServedLemmas.{goes_on_else, served_all, served_last, served_next}
use Rattle.gu_console.proofs.line_buffer.serve_lines.Goals as goal

pub returns-in-Closes : goal.returns-in-Closes
returns-in-Closes g c =
    let reference = g.E.EntryLedger.reference in
    let kept = c.lines.buffer in
    let part = c.in-Some.part.now in
    let line = c.line.ensures ∙ ap (λ (l : List ℕ). strip_carriage_return l) c.keep.ensures.kept in
    let answered = subst (λ (s : Said). IsAnswered reference c.lines.operator c.line.result.now c.lines.output.items c.answer.new.output.items s c.answer.new.self) c.in-Closes.is c.in_ok-answer.ensures.answered in
    served_last reference c.args.operator.now (c.args.buffer.now ++ c.args.piece.now) c.args.output.now.items c.lines.operator kept c.lines.left.now c.lines.output.items part c.in-Some.after.now
    c.line.result.now c.answer.new.output.items c.answer.new.self c.lines.invariant c.keep.ensures.none c.in-Some.ensures.parts line answered

pub lines-preserved : goal.lines-preserved
lines-preserved g c =
    let reference = g.E.EntryLedger.reference in
    let kept = c.lines.buffer in
    let part = c.in-Some.part.now in
    let line = c.line.ensures ∙ ap (λ (l : List ℕ). strip_carriage_return l) c.keep.ensures.kept in
    let said = goes_on_else c.in_ok-answer.field-0 c.in_default-2.not-Closes in
    let answered = subst (λ (s : Said). IsAnswered reference c.lines.operator c.line.result.now c.lines.output.items c.answer.new.output.items s c.answer.new.self) said c.in_ok-answer.ensures.answered in
    served_next reference c.args.operator.now (c.args.buffer.now ++ c.args.piece.now) c.args.output.now.items c.lines.operator kept c.lines.left.now c.lines.output.items part c.in-Some.after.now
    c.line.result.now c.answer.new.output.items c.answer.new.self c.begin.new.self c.lines.invariant c.keep.ensures.none c.in-Some.ensures.parts line answered c.begin.ensures

pub returns : goal.returns
returns g c =
    served_all g.E.EntryLedger.reference c.args.operator.now (c.args.buffer.now ++ c.args.piece.now) c.args.output.now.items c.lines.operator (c.lines.buffer ++ c.lines.left.now) c.lines.output.items
    c.keep-2.new.self c.lines.invariant c.keep-2.ensures.none c.keep-2.ensures.kept
