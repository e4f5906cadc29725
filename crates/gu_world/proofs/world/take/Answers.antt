use Rattle.gu_world.proofs.Words.{sym, subst, IfOk, state_in, LeadsTo, Step}
use Rattle.gu_world.proofs.SlotLemmas.{true-grown}
use Rattle.gu_world.proofs.world.take.Goals as goal

pub propose_for-requires : goal.propose_for-requires
propose_for-requires c = λ worker held at. (c.requires worker held at).nested

pub returns-in-Enter-clause-still : goal.returns-in-Enter-clause-still
returns-in-Enter-clause-still c = true-grown c.args.book.now c.enter.new.book c.args.looks.now c.enter.ensures.grows c.requires

pub returns-in-Propose-clause-leads : goal.returns-in-Propose-clause-leads
returns-in-Propose-clause-leads c =
    subst (λ (s : Step). IfOk c.propose_for.result (λ outcome. LeadsTo (state_in c.args.book.now c.args.looks.now) s outcome (state_in c.args.book.now c.propose_for.new.looks))) (sym c.in-Propose.is)
    (c.propose_for.ensures.proposes c.args.book.now c.requires)

pub returns-in-Propose-clause-still : goal.returns-in-Propose-clause-still
returns-in-Propose-clause-still c = c.propose_for.ensures.still c.args.book.now c.requires
