use Rattle.std.proofs.lemmas.Result.{IfOk-weaker}
use Rattle.gu_engine.specs.Houses.{AnswersAsk, lent}
use Rattle.gu_engine.specs.declared.house.Answered.{Answered}
use Rattle.gu_engine.proofs.Lending.{lent_answers}
use Rattle.gu_engine.proofs.house.RefMutHouse.answer.Goals as goal

pub returns-clause-answered : goal.returns-clause-answered
returns-clause-answered g c =
    let old = c.args.self.now in
    let new = c.answer.new.self in
    let rules = g.H.House.rules in
    IfOk-weaker c.answer.result (λ (answered : Answered). AnswersAsk rules old.now c.args.ask c.args.from answered new)
    (λ (answered : Answered). AnswersAsk (lent rules) old c.args.ask c.args.from answered (record old { now = new }))
    (λ (answered : Answered). lent_answers rules old new c.args.ask c.args.from answered) c.answer.ensures.answered
