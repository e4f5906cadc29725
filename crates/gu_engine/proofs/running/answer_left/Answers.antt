use Rattle.gu_engine.proofs.Words.{◌<◌, ◌≤◌, ◌∷◌, [], ℕ, List, length, inl, inr, refl, sym, ap, subst, rules, on_err_from, GivesAnswers, GivesPart, GivesSome, Backlog}
use Rattle.gu_engine.specs.declared.held.Held.{Held}
use Rattle.gu_engine.proofs.Answering.{idle_now, so_far_begins, so_far_cut, so_far_ends, so_far_fails, so_far_more, so_far_none, so_far_part}
use Rattle.gu_engine.proofs.Holding.{some_given, some_then}
use Rattle.gu_engine.proofs.running.answer_left.Goals as goal

pub returns-in_err-give_due-clause-part : goal.returns-in_err-give_due-clause-part
returns-in_err-give_due-clause-part g c = on_err_from _ (so_far_none g.A.Answerer.engine c.args.now c.args.answerer.now c.args.backlog.now _ _ c.in_err-give_due.ensures.part)

pub events-init : goal.events-init
events-init g c = record {
  so_far =
      let after : Backlog g.row.O.Denot = record c.args.backlog.now { held = c.give_due.new.held } in
      so_far_begins g.A.Answerer.engine c.args.now c.args.answerer.now c.args.backlog.now _ c.give_due.new.answerer after _ c.in_ok-give_due.ensures.answered refl refl;
  gave = some_given c.in_ok-give_due.ensures.answered.text c.args.backlog.now.held.bytes.items c.give_due.new.held.bytes.items _ _ c.in_ok-give_due.ensures.answered.gave;
  ready = c.in_ok-give_due.ensures.answered.ends;
  few = c.in_ok-give_due.ensures.few;
}

pub returns-in_err-event-clause-part : goal.returns-in_err-event-clause-part
returns-in_err-event-clause-part g c = on_err_from _ (so_far_fails g.A.Answerer.engine c.args.now c.args.answerer.now c.args.backlog.now _ c.events.answerer c.events.backlog _ c.events.invariant.so_far)

pub answer_event-requires-clause-idle : goal.answer_event-requires-clause-idle
answer_event-requires-clause-idle g c =
    let few : length c.events.backlog.held.bytes.items ≤ 65536 = search rules in
    idle_now g.A.Answerer.engine c.events.answerer c.events.backlog.held.bytes.items c.events.invariant.ready (sym c.if-not-is_done.ensures) few

pub returns-in_default-clause-answered : goal.returns-in_default-clause-answered
returns-in_default-clause-answered g c =
    let few : length c.events.backlog.held.bytes.items ≤ 65536 = search rules in
    let idle = idle_now g.A.Answerer.engine c.events.answerer c.events.backlog.held.bytes.items c.events.invariant.ready (sym c.if-not-is_done.ensures) few in
    let none = rw c.in_default.is at c.in_ok-event.ensures.none in
    so_far_ends g.A.Answerer.engine c.args.now c.args.answerer.now c.args.backlog.now _ c.events.answerer c.events.backlog c.next_event.new.self _ c.events.invariant.so_far none idle (ap (λ (held : Held g.row.O.Denot). held.bytes.items) c.next_event.ensures.held)

pub returns-in_default-clause-gave : goal.returns-in_default-clause-gave
returns-in_default-clause-gave g c =
    subst (λ (held : Held g.row.O.Denot). GivesSome c.args.backlog.now.held.bytes.items held.bytes.items (g.W.Write.contents c.args.writer.now) (g.W.Write.contents c.events.writer)) (sym c.next_event.ensures.held)
    c.events.invariant.gave

pub events-preserved : goal.events-preserved
events-preserved g c =
    let takes = rw c.in-Some.is at c.in_ok-event.ensures.event in
    let after : Backlog g.row.O.Denot = record c.next_event.new.self { held = c.answer_event.new.held } in
    let step =
    subst (λ (held : List ℕ). GivesAnswers g.A.Answerer.engine c.args.now c.events.answerer (c.in-Some.event ∷ []) c.answer_event.new.answerer held after.held.bytes.items (g.W.Write.contents c.events.writer) (g.W.Write.contents c.answer_event.new.writer))
    (ap (λ (held : Held g.row.O.Denot). held.bytes.items) c.next_event.ensures.held) c.in_ok-answer_event.ensures.answered in
    record {
      so_far =
          so_far_more g.A.Answerer.engine c.args.now c.args.answerer.now c.args.backlog.now _ c.events.answerer c.answer_event.new.answerer c.events.backlog c.next_event.new.self after c.in-Some.event _ _ c.events.invariant.so_far takes step
          refl refl;
      gave = some_then step.text c.args.backlog.now.held.bytes.items c.events.backlog.held.bytes.items after.held.bytes.items _ _ _ c.events.invariant.gave step.gave;
      ready = c.in_ok-answer_event.ensures.answered.ends;
      few = λ all few. c.in_ok-answer_event.ensures.few all;
    }

pub returns-in_err-answer_event-clause-part : goal.returns-in_err-answer_event-clause-part
returns-in_err-answer_event-clause-part g c =
    let takes = rw c.in-Some.is at c.in_ok-event.ensures.event in
    let part =
    subst (λ (held : List ℕ). GivesPart g.A.Answerer.engine c.args.now c.events.answerer (c.in-Some.event ∷ []) held (g.W.Write.contents c.events.writer) (g.W.Write.contents c.answer_event.new.writer))
    (ap (λ (held : Held g.row.O.Denot). held.bytes.items) c.next_event.ensures.held) c.in_err-answer_event.ensures.part in
    on_err_from _ (so_far_part g.A.Answerer.engine c.args.now c.args.answerer.now c.args.backlog.now _ c.events.answerer c.events.backlog c.next_event.new.self c.in-Some.event _ _ c.events.invariant.so_far takes part)

pub returns-else-not-is_done-clause-answered : goal.returns-else-not-is_done-clause-answered
returns-else-not-is_done-clause-answered g c =
    so_far_cut g.A.Answerer.engine c.args.now c.args.answerer.now c.args.backlog.now _ c.events.answerer c.events.backlog _ c.events.invariant.so_far (inl (sym c.if-not-is_done.ensures))

pub returns-after-events-clause-answered : goal.returns-after-events-clause-answered
returns-after-events-clause-answered g c =
    let full : 65536 < length c.events.backlog.held.bytes.items = search rules in
    so_far_cut g.A.Answerer.engine c.args.now c.args.answerer.now c.args.backlog.now _ c.events.answerer c.events.backlog _ c.events.invariant.so_far (inr full)
