use Rattle.gu_engine.proofs.Words.{List, ℕ, take, subst, on_err_from, WrotePart}
use Rattle.gu_engine.proofs.FirstParts.{wrote_first}
use Rattle.gu_engine.proofs.gate.GateOutlet.let_go.Goals as goal

pub returns-in_err-count-clause-err : goal.returns-in_err-count-clause-err
returns-in_err-count-clause-err g c =
    let contents = g.W.Write.contents in
    let part = subst (λ (text : List ℕ). WrotePart (take c.min-most.result text) (contents c.args.writer.now) (contents c.write_some.new.writer)) c.deref.ensures.value c.in_err-count.ensures.err in
    on_err_from _ (wrote_first c.min-most.result c.args.held.now.items _ _ part)
