use Rattle.gu_script.proofs.Words.{◌≡◌, ◌++◌, ◌∙◌, Option, None, ap, rules, option_copied, GroupView, Commit, outcome_text, on_ok_then}
use Rattle.gu_script.proofs.ReplaySteps.{step_answered}
use Rattle.gu_script.proofs.stepping.answer_commit.Goals as goal

pub returns : goal.returns
returns c =
    let outcome = c.in_ok-outcome.outcome in
    let view = c.in_ok-outcome.view in
    let before = c.args.output.now.items in
    let seen : option_copied c.as_ref.result ≡ view = search (rules, c.as_ref.ensures.value) in
    on_ok_then c.append_outcome-appended.result
    (λ text. step_answered c.args.world.now c.commit.new.self (Commit c.args.worker) view outcome before c.append_outcome-appended.new.output.items c.outcomes.ensures.reached c.in_ok-outcome.ensures.taken c.in_ok-outcome.ensures.view
    (text ∙ ap (λ (v : Option GroupView). before ++ outcome_text v None outcome) seen))
    c.append_outcome-appended.ensures.text
