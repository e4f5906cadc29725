use Rattle.gu_script.proofs.Words.{sym, subst, Line, AnswersLine, on_ok_then}
use Rattle.gu_script.proofs.ReplaySteps.{line_of_step}
use Rattle.gu_script.proofs.script.answer_line.Goals as goal

pub returns-in-Step : goal.returns-in-Step
returns-in-Step c =
    on_ok_then c.answer_borrowed.result
    (λ answers. subst (λ (said : Line). AnswersLine c.args.world.now said c.args.output.now.items c.answer_borrowed.new.world c.answer_borrowed.new.output.items) (sym c.in-Step.is)
    (line_of_step c.args.world.now c.answer_borrowed.new.world c.in-Step.step c.args.output.now.items c.answer_borrowed.new.output.items answers))
    c.answer_borrowed.ensures
