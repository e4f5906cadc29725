use Rattle.gu_world.proofs.Words.{List, take, sym, ap, subst, ◌∙◌, [], ◌∷◌, ◌++◌, take_all, take_more, GoesOn, IsRunOf, Step}
use Rattle.gu_world.proofs.RunLemmas.{run-goes_on}
use Rattle.gu_world.proofs.running.take_all.Goals as goal

pub loop-step-preserved : goal.loop-step-preserved
loop-step-preserved c =
    let steps = c.args.steps.now in
    let i = c.loop-step.step-index in
    let next = take_more steps i c.step-item.result c.loop-step-test.true ∙ ap (λ (s : Step). take i steps ++ s ∷ []) (sym c.step-item.is) in
    subst (λ (ss : List Step). IsRunOf c.args.reference ss c.step.new.self) (sym next)
    (run-goes_on c.args.reference (take i steps) c.step-item.result c.loop-step.world c.step.new.self c.loop-step.invariant
    (subst (λ (s : Step). GoesOn c.loop-step.world s c.step.new.self) c.in_ok-copy.ensures c.in_ok-step.ensures.stepped))

pub returns : goal.returns
returns c = subst (λ (ss : List Step). IsRunOf c.args.reference ss c.loop-step.world) (take_all c.loop-step.step-index c.args.steps.now c.loop-step-test.false) c.loop-step.invariant
