use Rattle.gu_world.proofs.Words.{sym, subst, ◌∙◌, AreTrue}
use Rattle.gu_world.proofs.Holding.{nothing-held, proposal-true, proposes, proposes-nothing, put-back}
use Rattle.gu_world.proofs.proposing.propose_for.Goals as goal

pub returns-in_default-clause-proposes : goal.returns-in_default-clause-proposes
returns-in_default-clause-proposes c = λ book trues. proposes-nothing c.args.looks.now c.take.new.self c.args.worker c.take.ensures.left book (sym c.take.ensures.held ∙ c.in_default.is)

pub returns-in_default-clause-still : goal.returns-in_default-clause-still
returns-in_default-clause-still c = λ book trues. subst (AreTrue book) (sym (nothing-held c.args.looks.now c.take.new.self c.args.worker c.take.ensures.left (sym c.take.ensures.held ∙ c.in_default.is))) trues

pub proposal_for-requires : goal.proposal_for-requires
proposal_for-requires c = c.requires c.args.worker c.in-Some.held (sym c.in-Some.ensures.held)

pub returns-in-Ok-clause-proposes : goal.returns-in-Ok-clause-proposes
returns-in-Ok-clause-proposes c = λ book trues.
    proposes c.args.looks.now c.take.new.self c.args.worker c.take.ensures.left c.in-Some.held.seen c.in-Some.held.work (sym c.in-Some.ensures.held)
    c.in-Ok.proposal c.put.new.self c.in-Ok.ensures.view c.put.ensures book c.proposed_lots-lots.result c.in-Some.ensures.made c.proposed_lots-lots.ensures.lots c.proposed_lots-lots.ensures.sweeps trues

pub returns-in-Ok-clause-still : goal.returns-in-Ok-clause-still
returns-in-Ok-clause-still c = λ book trues.
    proposal-true c.args.looks.now c.take.new.self c.args.worker c.take.ensures.left c.in-Some.held.seen c.in-Some.held.work (sym c.in-Some.ensures.held)
    c.in-Ok.proposal c.put.new.self c.in-Ok.ensures.view c.put.ensures book trues

pub returns-in-Err-clause-still : goal.returns-in-Err-clause-still
returns-in-Err-clause-still c = λ book trues.
    subst (AreTrue book) (sym (
    put-back c.args.looks.now c.take.new.self c.args.worker c.take.ensures.left c.in-Some.held.seen c.in-Some.held.work (sym c.in-Some.ensures.held)
    c.put-in-Err.new.self _ c.in-Err.ensures.refused c.put-in-Err.ensures)) trues

pub returns-in-Err-clause-refused : goal.returns-in-Err-clause-refused
returns-in-Err-clause-refused c =
    put-back c.args.looks.now c.take.new.self c.args.worker c.take.ensures.left c.in-Some.held.seen c.in-Some.held.work (sym c.in-Some.ensures.held)
    c.put-in-Err.new.self _ c.in-Err.ensures.refused c.put-in-Err.ensures
