use Rattle.gu_session.proofs.Words.{take, FollowText, sent_with}
use Rattle.gu_session.proofs.sending.Pen.push_all.Given as goal

-- the messages so far
abbrev pub invariant-loop-place : goal.invariant-loop-place
invariant-loop-place l = FollowText (take l.place (sent_with l.plan l.ready l.first l.now)) l.initial.output.items l.output.items
