use Rattle.gu_world.proofs.Words.{sym, ap, ◌∙◌, ends_stale}
use Rattle.gu_world.proofs.Blaming.{blames, blames-none}
use Rattle.gu_world.proofs.blame.blame.Goals as goal

pub returns-then-ends : goal.returns-then-ends
returns-then-ends c =
    blames c.args.world.now c.step.new.self c.args.step c.in_ok-step.ensures.stepped c.in_ok-first.first c.in_ok-first.ensures
    (sym c.if-ends.true ∙ c.in_ok-ends.ensures ∙ ap ends_stale c.outcomes.ensures.outcomes)

pub returns-else-ends : goal.returns-else-ends
returns-else-ends c =
    blames-none c.args.world.now c.step.new.self c.args.step c.in_ok-step.ensures.stepped (sym c.if-ends.false ∙ c.in_ok-ends.ensures ∙ ap ends_stale c.outcomes.ensures.outcomes)
