use Rattle.gu_engine.proofs.Words.{◌<◌, [], ◌++◌, length, inl, inr, sym, rules, on_err_from}
use Rattle.gu_engine.proofs.Answering.{due_gives, due_more, part_more_due, some_none}
use Rattle.gu_engine.proofs.Holding.{gives_nothing, gives_then}
use Rattle.gu_engine.proofs.running.give_due.Goals as goal

pub parts-init : goal.parts-init
parts-init g c = record {
  text = [];
  some = some_none g.A.Answerer.engine c.args.now c.args.answerer.now [];
  gives = gives_nothing c.args.held.now.bytes.items _;
  few = λ all few. few;
}

pub parts-preserved : goal.parts-preserved
parts-preserved g c =
    let run = c.parts.invariant in
    let step = c.in_ok-answer_one.ensures.answered in
    record {
      text = run.text ++ step.0;
      some = due_more g.A.Answerer.engine c.args.now c.args.answerer.now c.parts.answerer c.answer_one.new.answerer run.text step.0 run.some step.1;
      gives = gives_then run.text step.0 c.args.held.now.bytes.items c.parts.held.bytes.items c.answer_one.new.held.bytes.items _ _ _ run.gives step.2;
      few = λ all few. c.in_ok-answer_one.ensures.few all;
    }

pub returns-in_err-answer_one-clause-part : goal.returns-in_err-answer_one-clause-part
returns-in_err-answer_one-clause-part g c =
    let run = c.parts.invariant in
    on_err_from _
    (part_more_due g.A.Answerer.engine c.args.now c.args.answerer.now c.parts.answerer run.text c.args.held.now.bytes.items c.parts.held.bytes.items _ _ _ run.some run.gives c.in_err-answer_one.ensures.part)

pub returns-else-is_due-clause-answered : goal.returns-else-is_due-clause-answered
returns-else-is_due-clause-answered g c =
    let run = c.parts.invariant in
    due_gives g.A.Answerer.engine c.args.now c.args.answerer.now c.parts.answerer run.text c.args.held.now.bytes.items c.parts.held.bytes.items _ _ run.some run.gives (inl (inl (sym c.if-is_due.ensures)))

pub returns-else-not-is_done-clause-answered : goal.returns-else-not-is_done-clause-answered
returns-else-not-is_done-clause-answered g c =
    let run = c.parts.invariant in
    due_gives g.A.Answerer.engine c.args.now c.args.answerer.now c.parts.answerer run.text c.args.held.now.bytes.items c.parts.held.bytes.items _ _ run.some run.gives (inl (inr (sym c.if-not-is_done.ensures)))

pub returns-after-parts-clause-answered : goal.returns-after-parts-clause-answered
returns-after-parts-clause-answered g c =
    let run = c.parts.invariant in
    let full : 65536 < length c.parts.held.bytes.items = search rules in
    due_gives g.A.Answerer.engine c.args.now c.args.answerer.now c.parts.answerer run.text c.args.held.now.bytes.items c.parts.held.bytes.items _ _ run.some run.gives (inr full)
