use Rattle.std.proofs.Common.{is_some, subst}
use Rattle.std.proofs.lemmas.Result.{IfOk-weaker}
use Rattle.gu_engine.specs.Houses.{AnswersAsk}
use Rattle.gu_engine.specs.declared.house.Answered.{Answered}
use Rattle.gu_houses.specs.SeatHouse.{rules_of_seat}
use Rattle.gu_houses.specs.SharedHouse.{SharedSeat, rules_within}
use Rattle.gu_houses.proofs.ShareLemmas.{answers_within}
use Rattle.gu_houses.proofs.within_shares.WithinSharesHouse.answer.Goals as goal

-- without shares
pub returns-in_default-clause-answered : goal.returns-in_default-clause-answered
returns-in_default-clause-answered g c =
    let reference = g.E.EntryLedger.reference in
    let has_shares = is_some c.self.inside.shares in
    let new : SharedSeat = record { seat = c.answer.new.self; has_shares = has_shares } in
    IfOk-weaker c.answer.result (λ (answered : Answered). AnswersAsk (rules_of_seat reference) c.self.inside.house c.args.ask c.args.from answered c.answer.new.self)
    (λ (answered : Answered). AnswersAsk (rules_within reference) c.args.self.now c.args.ask c.args.from answered new)
    (λ (answered : Answered) is. subst (λ (old : SharedSeat). AnswersAsk (rules_within reference) old c.args.ask c.args.from answered new) c.self.view_is
    (answers_within reference has_shares c.self.inside.house c.answer.new.self c.args.ask c.args.from answered is))
    c.answer.ensures.answered

-- and a question
pub returns-in_default-ask-clause-answered : goal.returns-in_default-ask-clause-answered
returns-in_default-ask-clause-answered g c =
    let reference = g.E.EntryLedger.reference in
    let has_shares = is_some c.self.inside.shares in
    let new : SharedSeat = record { seat = c.answer-in_default-ask.new.self; has_shares = has_shares } in
    IfOk-weaker c.answer-in_default-ask.result (λ (answered : Answered). AnswersAsk (rules_of_seat reference) c.self.inside.house c.args.ask c.args.from answered c.answer-in_default-ask.new.self)
    (λ (answered : Answered). AnswersAsk (rules_within reference) c.args.self.now c.args.ask c.args.from answered new)
    (λ (answered : Answered) is. subst (λ (old : SharedSeat). AnswersAsk (rules_within reference) old c.args.ask c.args.from answered new) c.self.view_is
    (answers_within reference has_shares c.self.inside.house c.answer-in_default-ask.new.self c.args.ask c.args.from answered is))
    c.answer-in_default-ask.ensures.answered
