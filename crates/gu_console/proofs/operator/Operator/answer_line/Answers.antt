use Rattle.std.proofs.Common.{Bool, Option, None, ap, subst}
use Rattle.gu_console.specs.Answers.{OperatorState}
use Rattle.gu_console.specs.Requests.{IsAsked}
use Rattle.gu_console.specs.declared.request.Request.{Request}
use Rattle.gu_console.proofs.AnswerLemmas.{bad_answered}
use Rattle.gu_console.proofs.operator.Operator.answer_line.Goals as goal

pub returns-in-Ok-None-clause-answered : goal.returns-in-Ok-None-clause-answered
returns-in-Ok-None-clause-answered g c =
    let line = c.args.line.now in
    let asked = subst (λ (o : Option Request). IsAsked c.self.inside.console.is_watch line o) c.in-Ok-None.field-0-is c.in-Ok-None.ensures in
    let at_state = subst (λ (w : Bool). IsAsked w line None) (ap (λ (s : OperatorState). s.is_watch) c.self.view_is) asked in
    bad_answered g.E.EntryLedger.reference c.args.self.now line c.say_bad.new.text.items c.say_bad.result c.goes_on.result c.goes_on.ensures c.say_bad.ensures at_state
