use Rattle.gu_session.proofs.Words.{arith, subst, FollowsOnto, seen, SessionState, one_message_course}
use Rattle.gu_session.proofs.OntoLemmas.{one_followed, one_over}
use Rattle.gu_session.proofs.session.Session.send.Goals as goal

pub returns-then-self-gt-GREATEST-clause-done : goal.returns-then-self-gt-GREATEST-clause-done
returns-then-self-gt-GREATEST-clause-done c =
    let s = seen c.self.inside.state in
    subst (λ (s : SessionState). FollowsOnto s (one_message_course s.at c.args.body.now c.args.answered) c.args.now c.args.output.now.items c.args.output.now.items c.close.result (seen c.close.new.self))
    c.self.view_is
    (one_over s (seen c.close.new.self) c.in-Some.at c.args.body.now c.args.answered c.args.now c.args.output.now.items c.close.result c.in-Some.is c.if-self-gt-GREATEST.true
    c.close.ensures.closed c.close.ensures.handed c.close.ensures.close)

pub returns-clause-done : goal.returns-clause-done
returns-clause-done c =
    let s = seen c.self.inside.state in
    subst (λ (s : SessionState). FollowsOnto s (one_message_course s.at c.args.body.now c.args.answered) c.args.now c.args.output.now.items c.push.new.output.items c.nothing-2.result (seen c.note_sent.new.self))
    c.self.view_is
    (one_followed c.push.new.output s (seen c.note_sent.new.self) c.in-Some.at c.args.body.now c.args.answered c.args.now c.args.output.now.items c.nothing-2.result c.in-Some.is
    (omega (arith, c.if-self-gt-GREATEST.false)) c.in_ok-push.ensures.pushed c.nothing-2.ensures.handed c.nothing-2.ensures.close c.note_sent.ensures.behind)
