use Rattle.gu_flow.proofs.PreflowLemmas.{settled_flow}
use Rattle.gu_flow.proofs.preflow.give_back.Goals as goal

pub returns-clause-flow : goal.returns-clause-flow
returns-clause-flow c =
    settled_flow c.args.net.now.arcs.items c.give_back_once.new.flow c.give_back_once.new.excess c.give_back_once.ensures.preflow (c.give_back_once.ensures.settled c.turns-test.false)
