use Rattle.std.proofs.lemmas.Result.{IfOk-weaker}
use Rattle.gu_engine.specs.Houses.{AnswersAsk}
use Rattle.gu_engine.specs.declared.house.Answered.{Answered}
use Rattle.gu_workers.specs.Admitting.{inside}
use Rattle.gu_workers.proofs.InsideHouses.{inside_answers}
use Rattle.gu_workers.proofs.admitting_house.AdmittingHouseHouse.answer.Goals as goal

pub returns-clause-answered : goal.returns-clause-answered
returns-clause-answered g c =
    let old = c.args.self.now in
    let new = c.answer.new.self in
    let rules = g.H.House.rules in
    IfOk-weaker c.answer.result (λ (answered : Answered). AnswersAsk rules old.house c.args.ask c.args.from answered new)
    (λ (answered : Answered). AnswersAsk (inside rules) old c.args.ask c.args.from answered (record old { house = new }))
    (λ (answered : Answered). inside_answers rules old new c.args.ask c.args.from answered) c.answer.ensures.answered
