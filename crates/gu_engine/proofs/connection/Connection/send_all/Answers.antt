use Rattle.gu_engine.proofs.Words.{◌≡◌, ◌++◌, ◌∷◌, [], List, ℕ, refl, ap, sym, subst, ◌∙◌, append_assoc, SendsNotice, AnswersEach}
use Rattle.std.proofs.Common.{append-nil}
use Rattle.gu_terms.specs.declared.notice.Notice.{Notice}
use Rattle.gu_engine.specs.declared.connection.Connection.{Connection}
use Rattle.gu_engine.proofs.InTurn.{all_taken, each_more}
use Rattle.gu_engine.proofs.connection.Connection.send_all.Goals as goal

pub loop-notice-init : goal.loop-notice-init
loop-notice-init g c = record {
  text = [];
  collected = sym (append-nil c.args.output.now.items);
  answered = (refl, refl);
  next = refl;
  behind = refl;
  whole = sym c.into_iter-notice-iterator.ensures.into_iter_gives.0;
}

pub loop-notice-preserved : goal.loop-notice-preserved
loop-notice-preserved g c =
    let run = c.loop-notice.invariant in
    let step = c.in_ok-send_one.ensures.sent in
    record {
      text = run.text ++ step.0;
      collected = step.1 ∙ ap (λ (t : List ℕ). t ++ step.0) run.collected ∙ append_assoc c.args.output.now.items run.text step.0;
      answered = each_more (SendsNotice c.args.now) c.args.self.now c.loop-notice.self c.send_one.new.self c.loop-notice.yielded c.in-Some.notice run.text step.0 run.answered step.2;
      next = ap (λ (k : Connection g.row.H.Denot g.row.C.Denot). k.next) step.2.taken.new_is ∙ run.next;
      behind = ap (λ (k : Connection g.row.H.Denot g.row.C.Denot). k.is_behind) step.2.taken.new_is ∙ run.behind;
      whole = run.whole ∙ ap (λ (xs : List Notice). c.loop-notice.yielded ++ xs) c.in-Some.ensures.steps.0 ∙ sym (append_assoc c.loop-notice.yielded (c.in-Some.notice ∷ []) c.next.new.self.rest.items);
    }

pub returns-clause-sent : goal.returns-clause-sent
returns-clause-sent g c =
    let run = c.loop-notice.invariant in
    let rest = c.loop-notice.notice-iterator.rest in
    let all : c.loop-notice.yielded ≡ c.args.notices.items = all_taken c.args.notices.items c.loop-notice.yielded rest.items rest.len run.whole rest.ok.0 c.in-None.ensures.steps.0 in
    (run.text, run.collected, subst (λ (xs : List Notice). AnswersEach (SendsNotice c.args.now) c.args.self.now xs run.text c.loop-notice.self) all run.answered)
