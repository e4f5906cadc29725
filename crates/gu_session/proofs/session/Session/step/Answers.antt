use Rattle.gu_session.proofs.Words.{List, Option, refl, ap, ◌∙◌, option_map_or, Body, message_course, on_answer, seen, Leave, Stay, LoggedOn, Waiting}
use Rattle.gu_session.specs.AnswerRules.{answer_course}
use Rattle.gu_session.specs.declared.input.Input.TheVariants.{Answer, End, Notice}
use Rattle.gu_session.proofs.StepLemmas.{performed_steps}
use Rattle.gu_session.proofs.session.Session.step.Goals as goal

pub returns-in-Notice-clause-steps : goal.returns-in-Notice-clause-steps
returns-in-Notice-clause-steps c =
    let s = seen c.self.inside.state in
    rw c.in-Notice.is
    (performed_steps s c.args.self.now c.perform-in-Notice.new.self (Notice c.in-Notice.notice) c.message_course-course.result c.args.now c.perform-in-Notice.result c.self.view_is
    c.if-state.false
    (c.message_course-course.ensures ∙ ap (λ (body : Body). option_map_or (λ (at : LoggedOn). message_course at body) s.at Stay) c.notice_body-body.ensures)
    c.perform-in-Notice.ensures.done)

pub returns-in_ok-answer-in-Answer-clause-steps : goal.returns-in_ok-answer-in-Answer-clause-steps
returns-in_ok-answer-in-Answer-clause-steps c =
    let s = seen c.self.inside.state in
    let reference = c.in-Answer.reference in
    let outcome = c.in-Answer.outcome in
    rw c.in-Answer.is
    (performed_steps s c.args.self.now c.perform-in-Answer.new.self (Answer reference outcome) c.answer_course-course.result c.args.now c.perform-in-Answer.result
    c.self.view_is c.if-state.false
    (c.answer_course-course.ensures
    ∙ ap (λ (messages : Option (List Body)). option_map_or (λ (at : LoggedOn). answer_course at reference messages) s.at Stay) c.in_ok-answer-in-Answer.ensures
    ∙ ap (λ (waiting : List Waiting). option_map_or (λ (at : LoggedOn). on_answer at waiting reference outcome) s.at Stay) c.deref-in-Answer.ensures.value)
    c.perform-in-Answer.ensures.done)

pub returns-in-End-clause-steps : goal.returns-in-End-clause-steps
returns-in-End-clause-steps c =
    rw c.in-End.is
    (performed_steps (seen c.self.inside.state) c.args.self.now c.perform-in-End.new.self End Leave c.args.now c.perform-in-End.result c.self.view_is c.if-state.false refl
    c.perform-in-End.ensures.done)
