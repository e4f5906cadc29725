use Rattle.gu_session.proofs.Words.{◌≡◌, ◌+◌, List, refl, ap, subst, ◌∙◌, FollowsOnto, at_expected, request_course, asked_in, behind, hands, seen, LoggedOn, SessionState, Waiting}
use Rattle.gu_session.proofs.InTurn.{request_followed}
use Rattle.gu_session.proofs.session.Session.hand_out.Goals as goal

pub returns-clause-done : goal.returns-clause-done
returns-clause-done c text =
    let state = record c.self.inside.state { waiting = c.reserve.new.self } in
    let same : seen state ≡ c.args.self.now = ap (λ (ws : List Waiting). record (seen c.self.inside.state) { waiting = ws }) c.in_ok-reserve.ensures.items ∙ c.self.view_is in
    let after : record c.at_frame.result { expected = c.get.result + 1 } ≡ at_expected c.in-Some.at c.args.now c.args.number = rw (c.at_frame.ensures, c.get.ensures.number) refl in
    subst (λ (s : SessionState). FollowsOnto s (request_course s.at c.args.number c.args.asking c.args.now) c.args.now text text c.hand_out.result (seen c.hand_out.new.self)) same
    (request_followed (seen state) (seen c.hand_out.new.self) c.in-Some.at c.args.number c.args.asking c.args.now text c.hand_out.result c.in-Some.is c.self.invariant.most
    (subst (λ (at : LoggedOn). seen c.hand_out.new.self ≡ behind (seen state) c.args.now (hands at c.args.number c.args.asking)) after (c.hand_out.ensures.behind c.args.now))
    (subst (λ (at : LoggedOn). c.hand_out.result.handed ≡ asked_in (hands at c.args.number c.args.asking).handed) after c.hand_out.ensures.handed) c.hand_out.ensures.close)
