use Rattle.gu_session.proofs.Words.{◌≡◌, false, None, ap, subst, option_map_or, message_course, Body, LoggedOn, SessionState, Stay}
use Rattle.std.proofs.lemmas.Result.{IfOk-weaker}
use Rattle.gu_session.specs.Following.{one_message_course}
use Rattle.gu_session.specs.declared.input.Input.TheVariants.{Notice}
use Rattle.gu_session.proofs.OntoLemmas.{followed_steps}
use Rattle.gu_session.proofs.session.Session.notice_onto.Goals as goal

pub returns-clause-steps : goal.returns-clause-steps
returns-clause-steps c =
    let s = c.args.self.now in
    let is_open = subst (λ (s : SessionState). s.is_closed ≡ false) c.self.view_is c.if-state.false in
    IfOk-weaker c.send.result _ _ (λ taken follows.
    followed_steps s c.send.new.self (Notice c.args.notice.now) (one_message_course s.at c.notice_body-body.result None) c.args.now c.args.output.now.items c.send.new.output.items taken is_open
    (ap (λ (body : Body). option_map_or (λ (at : LoggedOn). message_course at body) s.at Stay) c.notice_body-body.ensures) follows) c.send.ensures.done
