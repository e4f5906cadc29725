use Rattle.gu_script.proofs.Words.{◌++◌, ◌∙◌, Option, None, ap, Group, outcome_text, on_ok_then}
use Rattle.gu_script.proofs.ReplaySteps.{step_answered}
use Rattle.gu_script.proofs.stepping.answer_step.Goals as goal

pub returns : goal.returns
returns c =
    let outcome = c.in_ok-outcome.outcome in
    let before = c.args.output.now.items in
    on_ok_then c.append_outcome-appended.result
    (λ text. step_answered c.args.world.now c.take.new.self c.args.step None outcome before c.append_outcome-appended.new.output.items c.outcomes.ensures.reached c.in_ok-outcome.ensures.taken c.requires
    (text ∙ ap (λ (g : Option Group). before ++ outcome_text None g outcome) c.looked-looked.ensures))
    c.append_outcome-appended.ensures.text
