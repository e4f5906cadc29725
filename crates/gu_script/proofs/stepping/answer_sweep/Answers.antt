use Rattle.gu_script.proofs.Words.{◌≡◌, ℕ, true, false, subst, rules, is_group, GoesOn, Commit, AnswersStep, on_ok_then}
use Rattle.gu_script.proofs.ReplaySteps.{line_of_sweep, line_of_unknown}
use Rattle.gu_script.proofs.stepping.answer_sweep.Goals as goal

pub returns-then-is_known : goal.returns-then-is_known
returns-then-is_known c =
    let known : is_group c.args.world.now.state.book.reference c.args.group ≡ true = search rules in
    on_ok_then c.answer_commit.result
    (λ answers. line_of_sweep c.args.world.now c.propose.new.world c.answer_commit.new.world c.args.group c.args.output.now.items c.answer_commit.new.output.items known c.in_ok-propose.ensures
    (subst (λ (w : ℕ). AnswersStep c.propose.new.world (Commit w) c.args.output.now.items c.answer_commit.new.world c.answer_commit.new.output.items) c.sweeper.ensures answers))
    c.answer_commit.ensures

pub returns : goal.returns
returns c =
    let unknown : is_group c.args.world.now.state.book.reference c.args.group ≡ false = search rules in
    on_ok_then c.append_unknown_group.result
    (λ answers. line_of_unknown c.args.world.now c.propose.new.world c.step.new.self c.args.group c.args.output.now.items c.append_unknown_group.new.output.items unknown
    c.in_ok-propose.ensures (subst (λ (w : ℕ). GoesOn c.propose.new.world (Commit w) c.step.new.self) c.sweeper-2.ensures c.in_ok-step.ensures.stepped) answers)
    c.append_unknown_group.ensures
