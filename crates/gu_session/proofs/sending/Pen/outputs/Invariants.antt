use Rattle.gu_session.proofs.Words.{map, take, AreOutputs, Sends, sent_with}
use Rattle.gu_session.proofs.sending.Pen.outputs.Given as goal

-- the messages so far
abbrev pub invariant-loop-place : goal.invariant-loop-place
invariant-loop-place l = AreOutputs (map Sends (take l.place (sent_with l.plan l.ready l.first l.now))) l.outputs.items
