use Rattle.gu_session.proofs.Words.{◌≡◌, List, false, ap, sym, subst, ◌∙◌, append_assoc, Follows, end_outputs, handed_outputs, seen, is_over, SessionState, Output, Go, Waiting}
use Rattle.gu_session.proofs.OntoLemmas.{plan_given}
use Rattle.gu_session.proofs.session.Session.give.Goals as goal

pub returns-clause-done : goal.returns-clause-done
returns-clause-done c =
    let state = record c.self.inside.state { waiting = c.reserve.new.self } in
    let same : seen state ≡ c.args.self.now = ap (λ (ws : List Waiting). record (seen c.self.inside.state) { waiting = ws }) c.in_ok-reserve.ensures.items ∙ c.self.view_is in
    let suffice : is_over (seen state).next c.args.plan ≡ false = sym c.is_over.ensures ∙ c.if-is_over.false in
    let given = plan_given (seen state) (seen c.commit.new.self) c.args.now c.args.plan c.in_ok-ready.ready c.in_ok-outputs.outputs.items c.commit.result
    c.in_ok-ready.ensures suffice c.in_ok-outputs.ensures.outputs c.commit.ensures.handed c.commit.ensures.close c.commit.ensures.behind in
    let outputs = c.push_taken.ensures ∙ append_assoc c.in_ok-outputs.outputs.items (handed_outputs c.commit.result.handed) (end_outputs c.commit.result.is_closed) in
    subst (λ (s : SessionState). Follows s (Go c.args.plan) c.args.now c.push_taken.new.outputs.items (seen c.commit.new.self)) same
    (subst (λ (os : List Output). Follows (seen state) (Go c.args.plan) c.args.now os (seen c.commit.new.self)) (sym outputs) given)
