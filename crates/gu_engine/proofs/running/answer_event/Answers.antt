use Rattle.gu_streams.proofs.Writing.{on_err_then, on_ok_then}
use Rattle.gu_engine.proofs.Answering.{event_gives, part_due}
use Rattle.gu_engine.proofs.running.answer_event.Goals as goal

pub returns-clause-answered : goal.returns-clause-answered
returns-clause-answered g c =
    let step = c.in_ok-answer_one.ensures.answered in
    on_ok_then c.give_due.result
    (λ due. event_gives g.A.Answerer.engine c.args.now c.args.answerer.now c.answer_one.new.answerer c.give_due.new.answerer c.args.event step.0 c.args.held.now.bytes.items c.answer_one.new.held.bytes.items c.give_due.new.held.bytes.items _ _ _
    c.requires.brought step.1 step.2 due)
    c.give_due.ensures.answered

pub returns-clause-part : goal.returns-clause-part
returns-clause-part g c =
    let step = c.in_ok-answer_one.ensures.answered in
    on_err_then c.give_due.result
    (λ part. part_due g.A.Answerer.engine c.args.now c.args.answerer.now c.answer_one.new.answerer c.args.event step.0 c.args.held.now.bytes.items c.answer_one.new.held.bytes.items _ _ _ c.requires.brought step.1 step.2 part)
    c.give_due.ensures.part
