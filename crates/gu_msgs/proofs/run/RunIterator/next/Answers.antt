use Rattle.gu_msgs.proofs.Words.{◌<◌, arith, sym, ◌∙◌, tag_value}
use Rattle.gu_msgs.proofs.RunLemmas.{first_between}
use Rattle.gu_msgs.proofs.run.RunIterator.next.Goals as goal

pub returns-clause-steps : goal.returns-clause-steps
returns-clause-steps c =
    let before : c.self.inside.from < c.self.inside.to = omega (arith, c.self.invariant.ordered, c.if-self.false) in
    sym c.self.view_is ∙ first_between c.self.inside.fields.now c.self.inside.from c.self.inside.to (tag_value c.get-field.result.tag c.get-field.result.value.now) before c.get-field.ensures
