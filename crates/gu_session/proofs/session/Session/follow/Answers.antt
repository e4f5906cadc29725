use Rattle.gu_session.proofs.Words.{refl, subst, FollowsOnto, seen, SessionState, Leave}
use Rattle.gu_session.proofs.OntoLemmas.{leaving_followed}
use Rattle.gu_session.proofs.session.Session.follow.Goals as goal

pub returns-in-Leave-clause-done : goal.returns-in-Leave-clause-done
returns-in-Leave-clause-done c =
    let s = seen c.self.inside.state in
    rw c.in-Leave.is
    (subst (λ (s : SessionState). FollowsOnto s Leave c.args.now c.args.output.now.items c.args.output.now.items c.close.result (seen c.close.new.self)) c.self.view_is
    (leaving_followed s (seen c.close.new.self) Leave c.args.now c.args.output.now.items c.close.result refl refl c.close.ensures.closed c.close.ensures.handed c.close.ensures.close))
