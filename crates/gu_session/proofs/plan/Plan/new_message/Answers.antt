use Rattle.gu_session.proofs.NumberLemmas.{numbered-get}
use Rattle.gu_session.proofs.plan.Plan.new_message.Goals as goal

pub returns-clause-message : goal.returns-clause-message
returns-clause-message c =
    numbered-get c.args.self.now.after.firm c.args.now c.args.first c.args.self.now.messages c.args.place c.get.result.now c.get.ensures
