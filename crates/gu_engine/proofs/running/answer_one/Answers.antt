use Rattle.gu_streams.proofs.Writing.{on_err_from, on_err_then}
use Rattle.gu_engine.proofs.Answering.{part_none, part_one}
use Rattle.gu_engine.proofs.running.answer_one.Goals as goal

pub returns-in_err-answer-clause-part : goal.returns-in_err-answer-clause-part
returns-in_err-answer-clause-part g c = on_err_from _ (part_none g.A.Answerer.engine c.args.now c.args.answerer.now _ c.args.held.now.bytes.items _)

pub returns-clause-part : goal.returns-clause-part
returns-clause-part g c =
    let step = c.in_ok-answer.ensures.answered in
    on_err_then c.send_if_much.result
    (λ part. part_one g.A.Answerer.engine c.args.now c.args.answerer.now c.answer.new.self c.args.event step.0 c.args.held.now.bytes.items c.answer.new.output.items _ _
    (record { goes_on = c.requires.goes_on; due_first = c.requires.due_first; answered = step.2 }) step.1 part)
    c.send_if_much.ensures.part
