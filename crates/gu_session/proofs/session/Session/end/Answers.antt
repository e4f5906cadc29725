use Rattle.gu_session.proofs.Words.{refl, subst, StepsOnto, seen, SessionState, Leave}
use Rattle.gu_session.specs.declared.input.Input.TheVariants.{End}
use Rattle.gu_session.proofs.OntoLemmas.{followed_steps, leaving_followed}
use Rattle.gu_session.proofs.session.Session.end.Goals as goal

pub returns : goal.returns
returns c now text =
    let s = seen c.self.inside.state in
    subst (λ (s : SessionState). StepsOnto s End now text text c.close.result (seen c.close.new.self)) c.self.view_is
    (followed_steps s (seen c.close.new.self) End Leave now text text c.close.result c.if-self.false refl
    (leaving_followed s (seen c.close.new.self) Leave now text c.close.result refl refl c.close.ensures.closed c.close.ensures.handed c.close.ensures.close))
