use Rattle.gu_session.proofs.Words.{◌≡◌, List, true, false, refl, ap, sym, subst, ◌∙◌, FollowsOnto, seen, is_over, SessionState, Go, Waiting}
use Rattle.gu_session.proofs.OntoLemmas.{leaving_followed, plan_followed}
use Rattle.gu_session.proofs.session.Session.carry_out.Goals as goal

pub returns-then-is_over-clause-done : goal.returns-then-is_over-clause-done
returns-then-is_over-clause-done c =
    let s = seen c.self.inside.state in
    let over : is_over s.next c.args.plan ≡ true = sym c.is_over.ensures ∙ c.if-is_over.true in
    subst (λ (s : SessionState). FollowsOnto s (Go c.args.plan) c.args.now c.args.output.now.items c.args.output.now.items c.close.result (seen c.close.new.self)) c.self.view_is
    (leaving_followed s (seen c.close.new.self) (Go c.args.plan) c.args.now c.args.output.now.items c.close.result (rw over refl) (rw over refl) c.close.ensures.closed
    c.close.ensures.handed c.close.ensures.close)

pub returns-clause-done : goal.returns-clause-done
returns-clause-done c =
    let state = record c.self.inside.state { waiting = c.reserve.new.self } in
    let same : seen state ≡ c.args.self.now = ap (λ (ws : List Waiting). record (seen c.self.inside.state) { waiting = ws }) c.in_ok-reserve.ensures.items ∙ c.self.view_is in
    let suffice : is_over (seen state).next c.args.plan ≡ false = sym c.is_over.ensures ∙ c.if-is_over.false in
    subst (λ (s : SessionState). FollowsOnto s (Go c.args.plan) c.args.now c.args.output.now.items c.append.new.output.items c.commit.result (seen c.commit.new.self)) same
    (plan_followed (seen state) (seen c.commit.new.self) c.args.now c.args.plan c.in_ok-ready.ready c.args.output.now.items c.append.new.output.items c.commit.result
    c.in_ok-ready.ensures suffice c.in_ok-append.ensures.pushed c.commit.ensures.handed c.commit.ensures.close c.commit.ensures.behind)
