use Rattle.gu_world.proofs.Words.{◌≡◌, ◌++◌, ◌∷◌, [], Option, map, subst, sym, None, slice_index_or, GroupView, state_in, view_proposed, kept_of, outcome_in, Course, GoesOn, ShowsProposed, IsShort, Commit}
use Rattle.gu_world.proofs.RunLemmas.{proposed-current, taken-kept, taken-told}
use Rattle.gu_world.proofs.ShortLemmas.{leads-short}
use Rattle.gu_world.proofs.world.World.commit.Goals as goal

pub push-requires-clause-short : goal.push-requires-clause-short
push-requires-clause-short c =
    let old = c.self.inside in
    let new = c.commit_for.new in
    subst IsShort (sym c.of.ensures)
    (leads-short (state_in old.book old.looks) (Commit c.args.worker) c.in_ok-outcome.outcome (state_in new.book new.looks) c.in_ok-outcome.ensures.commits c.history-2.ensures.legal.within)

pub invariant_of-self-2 : goal.invariant_of-self-2
invariant_of-self-2 c =
    let old = c.self.inside in
    let new = c.commit_for.new in
    let outcome = c.in_ok-outcome.outcome in
    let pushed : c.push.new.self.items ≡ old.outcomes.items ++ kept_of outcome ∷ [] = cc in
    taken-kept old.book new.book old.looks new.looks old.outcomes.items c.push.new.self.items (Commit c.args.worker) outcome c.in_ok-outcome.ensures.commits pushed c.self.invariant c.commit_for.ensures.still

pub returns-clause-taken : goal.returns-clause-taken
returns-clause-taken c =
    let old = c.self.inside in
    let new = c.commit_for.new in
    let outcome = c.in_ok-outcome.outcome in
    let pushed : c.push.new.self.items ≡ old.outcomes.items ++ kept_of outcome ∷ [] = cc in
    let after : Course = record { state = state_in new.book new.looks; outcomes = map (outcome_in new.book.history) c.push.new.self.items } in
    subst (λ (before : Course). (goes : GoesOn before (Commit c.args.worker) after) × (goes.outcome ≡ outcome)) c.self.view_is
    (taken-told old.book new.book old.looks new.looks old.outcomes.items c.push.new.self.items (Commit c.args.worker) outcome c.in_ok-outcome.ensures.commits pushed c.self.invariant)

pub returns-clause-view : goal.returns-clause-view
returns-clause-view c =
    let old = c.self.inside in
    subst (λ (view : Option GroupView). ShowsProposed c.args.self.now.state c.args.worker view) (sym c.in_ok-outcome.ensures.view)
    (subst (λ (course : Course). ShowsProposed course.state c.args.worker (view_proposed (slice_index_or old.looks c.args.worker None))) c.self.view_is
    (proposed-current old.book old.looks c.args.worker c.history.ensures.legal c.self.invariant.trues))
