use Rattle.gu_world.proofs.Words.{◌≡◌, ◌++◌, ◌∷◌, [], map, subst, sym, looks_in, state_in, kept_of, outcome_in, Course, GoesOn, outcome_of, IsShort, Enter}
use Rattle.gu_world.proofs.RunLemmas.{taken-kept, taken-told}
use Rattle.gu_world.proofs.ShortLemmas.{leads-short}
use Rattle.gu_world.proofs.SlotLemmas.{true-grown}
use Rattle.gu_world.proofs.world.World.enter.Goals as goal

pub push-requires-clause-short : goal.push-requires-clause-short
push-requires-clause-short c =
    let old = c.self.inside in
    let command = c.args.command.now in
    let outcome = outcome_of command c.in_ok-answered.answered in
    subst IsShort (sym (c.of_answer.ensures command))
    (leads-short (state_in old.book old.looks) (Enter command) outcome (state_in c.ask.new.book old.looks) (c.ask.ensures.may, c.in_ok-answered.ensures.asked (looks_in old.looks)) c.history.ensures.legal.within)

pub invariant_of-self-2 : goal.invariant_of-self-2
invariant_of-self-2 c =
    let old = c.self.inside in
    let command = c.args.command.now in
    let outcome = outcome_of command c.in_ok-answered.answered in
    let pushed : c.push.new.self.items ≡ old.outcomes.items ++ kept_of outcome ∷ [] = cc (c.of_answer.ensures command) in
    taken-kept old.book c.ask.new.book old.looks old.looks old.outcomes.items c.push.new.self.items (Enter command) outcome (c.ask.ensures.may, c.in_ok-answered.ensures.asked (looks_in old.looks)) pushed
    c.self.invariant (true-grown old.book c.ask.new.book old.looks c.ask.ensures.grows c.self.invariant.trues)

pub returns-clause-taken : goal.returns-clause-taken
returns-clause-taken c =
    let old = c.self.inside in
    let command = c.args.command.now in
    let outcome = outcome_of command c.in_ok-answered.answered in
    let pushed : c.push.new.self.items ≡ old.outcomes.items ++ kept_of outcome ∷ [] = cc (c.of_answer.ensures command) in
    let after : Course = record { state = state_in c.ask.new.book old.looks; outcomes = map (outcome_in c.ask.new.book.history) c.push.new.self.items } in
    subst (λ (before : Course). (goes : GoesOn before (Enter command) after) × (goes.outcome ≡ outcome)) c.self.view_is
    (taken-told old.book c.ask.new.book old.looks old.looks old.outcomes.items c.push.new.self.items (Enter command) outcome (c.ask.ensures.may, c.in_ok-answered.ensures.asked (looks_in old.looks)) pushed c.self.invariant)
