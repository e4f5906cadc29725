use Rattle.gu_world.proofs.Words.{subst, ◌≡◌, Tables, BookState, IsLegal, start}
use Rattle.gu_rules.specs.Orderly.{IsOrderly}
use Rattle.gu_rules.specs.Positions.{LongIsShort}
use Rattle.gu_world.proofs.HeadlineLemmas.{never_foreign, positions_are_sums, run-reference, sweeps_are_greatest}
use Rattle.gu_world.proofs.running.run.Goals as goal

pub returns-clause-legal : goal.returns-clause-legal
returns-clause-legal c =
    let world = c.in_ok-world.world in
    let same = run-reference (start c.args.reference) c.args.steps.now world.outcomes world.state c.in_ok-world.ensures in
    let book : c.book.result.now ≡ world.state.book = c.book.ensures in
    subst (λ (r : Tables). IsLegal r world.state.book.history) same (subst (λ (b : BookState). IsLegal b.reference b.history) book c.history.ensures.legal)

pub returns-clause-sweeps : goal.returns-clause-sweeps
returns-clause-sweeps c = sweeps_are_greatest c.args.reference c.in_ok-world.world.state.book.history (returns-clause-legal c)

pub returns-clause-positions : goal.returns-clause-positions
returns-clause-positions c =
    positions_are_sums c.in_ok-world.world.state.book.history (subst (λ (b : BookState). IsOrderly b.history) c.book.ensures c.history.ensures.orderly)

pub returns-clause-even : goal.returns-clause-even
returns-clause-even c = subst LongIsShort c.book.ensures c.history.ensures.even

pub returns-clause-never_foreign : goal.returns-clause-never_foreign
returns-clause-never_foreign c = never_foreign (start c.args.reference) c.args.steps.now c.in_ok-world.world.outcomes c.in_ok-world.world.state c.in_ok-world.ensures
