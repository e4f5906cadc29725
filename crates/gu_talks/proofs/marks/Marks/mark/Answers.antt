use Rattle.std.proofs.Common.{◌<◌, arith}
use Rattle.gu_talks.proofs.Adding.{begins, counts, grows}
use Rattle.gu_talks.proofs.marks.Marks.mark.Goals.{then-self-eq0, else-self-eq0}
use Rattle.gu_talks.proofs.marks.Marks.mark.Goals as goal

pub returns : goal.returns
returns c =
    let before = c.self.inside in
    let after = c.if-self-eq0.self-inside in
    let more : before.marked < c.args.held = omega (arith, counts before c.args.self.now c.self.view_is c.self.invariant, c.requires, c.if-held-self.false) in
    elim c.if-self-eq0.branch [
      | then-self-eq0 w ↦ begins before after c.args.self.now c.args.held c.args.number c.self.view_is c.self.invariant w.if-self-eq0.true w.self-inside-is
      | else-self-eq0 w ↦ grows before after c.args.self.now c.args.held c.args.number w.max-self-inside.result c.self.view_is c.self.invariant w.if-self-eq0.false more w.max-self-inside.ensures w.self-inside-is
    ]
