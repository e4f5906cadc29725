use Rattle.gu_world.proofs.Words.{subst, IfOk, IsBlamedFor, Step}
use Rattle.gu_world.proofs.Blaming.{culprit-at}
use Rattle.gu_world.proofs.blame.culprit.Goals as goal

pub returns : goal.returns
returns c =
    culprit-at c.args.reference c.args.steps.now c.args.at c.index-steps-at.result c.in_ok-world.world c.blame.new.world c.blame.result c.if-at-steps.false c.index-steps-at.is c.in_ok-world.ensures
    (subst (λ (s : Step). IfOk c.blame.result (IsBlamedFor c.in_ok-world.world s c.blame.new.world)) c.in_ok-step.ensures c.blame.ensures)
