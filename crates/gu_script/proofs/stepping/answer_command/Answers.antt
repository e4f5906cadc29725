use Rattle.gu_script.proofs.Words.{◌≡◌, Option, Some, None, refl, subst, GoesOn, outcome_of, Enter, on_ok_then}
use Rattle.gu_world.specs.declared.answered.Answered.{Answered}
use Rattle.gu_script.proofs.ReplaySteps.{step_answered}
use Rattle.gu_script.proofs.stepping.answer_command.Goals as goal

pub returns-in-Some : goal.returns-in-Some
returns-in-Some c =
    let command = c.args.command.now in
    let taken = subst (λ (answered : Option Answered). (goes : GoesOn c.args.world.now (Enter command) c.enter.new.self) × (goes.outcome ≡ outcome_of command answered)) c.in-Some.is c.in_ok-answered.ensures.taken in
    on_ok_then c.append_reply.result
    (λ text. step_answered c.args.world.now c.enter.new.self (Enter command) None (outcome_of command (Some c.in-Some.field-0)) c.args.output.now.items c.append_reply.new.output.items
    c.outcomes.ensures.reached taken refl text)
    c.append_reply.ensures.text

pub returns-in-None : goal.returns-in-None
returns-in-None c =
    let command = c.args.command.now in
    let taken = subst (λ (answered : Option Answered). (goes : GoesOn c.args.world.now (Enter command) c.enter.new.self) × (goes.outcome ≡ outcome_of command answered)) c.in-None.is c.in_ok-answered.ensures.taken in
    on_ok_then c.append_last_word.result
    (λ text. step_answered c.args.world.now c.enter.new.self (Enter command) None (outcome_of command None) c.args.output.now.items c.append_last_word.new.output.items
    c.outcomes.ensures.reached taken refl text)
    c.append_last_word.ensures.ok
