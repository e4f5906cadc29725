use Rattle.gu_world.proofs.Words.{◌≡◌, ◌++◌, ◌∷◌, [], map, subst, sym, state_in, kept_of, outcome_in, Course, GoesOn, IsShort}
use Rattle.gu_world.proofs.RunLemmas.{taken-kept, taken-told}
use Rattle.gu_world.proofs.ShortLemmas.{leads-short}
use Rattle.gu_world.proofs.world.World.take.Goals as goal

pub push-requires-clause-short : goal.push-requires-clause-short
push-requires-clause-short c =
    let old = c.self.inside in
    let new = c.take.new in
    subst IsShort (sym c.of.ensures) (leads-short (state_in old.book old.looks) c.args.step c.in_ok-outcome.outcome (state_in new.book new.looks) c.in_ok-outcome.ensures.leads c.history.ensures.legal.within)

pub invariant_of-self-2 : goal.invariant_of-self-2
invariant_of-self-2 c =
    let old = c.self.inside in
    let new = c.take.new in
    let outcome = c.in_ok-outcome.outcome in
    let pushed : c.push.new.self.items ≡ old.outcomes.items ++ kept_of outcome ∷ [] = cc in
    taken-kept old.book new.book old.looks new.looks old.outcomes.items c.push.new.self.items c.args.step outcome c.in_ok-outcome.ensures.leads pushed c.self.invariant c.take.ensures.still

pub returns-clause-taken : goal.returns-clause-taken
returns-clause-taken c =
    let old = c.self.inside in
    let new = c.take.new in
    let outcome = c.in_ok-outcome.outcome in
    let pushed : c.push.new.self.items ≡ old.outcomes.items ++ kept_of outcome ∷ [] = cc in
    let after : Course = record { state = state_in new.book new.looks; outcomes = map (outcome_in new.book.history) c.push.new.self.items } in
    subst (λ (before : Course). (goes : GoesOn before c.args.step after) × (goes.outcome ≡ outcome)) c.self.view_is
    (taken-told old.book new.book old.looks new.looks old.outcomes.items c.push.new.self.items c.args.step outcome c.in_ok-outcome.ensures.leads pushed c.self.invariant)
