use Rattle.gu_script.proofs.Words.{◌+◌, ◌∙◌, ℕ, List, Option, None, take, sym, ap, subst, option_or, WrotePart, on_err_from, Day, Entry, open_after}
use Rattle.gu_script.proofs.JournalLemmas.{next_taken, open_from, open_from-append, wrote_no_more, wrote_part, written_to_next, written_to_sent}
use Rattle.gu_script.proofs.journal.write_journal.Goals as goal

pub returns-in_err-entry-clause-err : goal.returns-in_err-entry-clause-err
returns-in_err-entry-clause-err g c =
    on_err_from c.from_residual.result (wrote_no_more c.args.history.now c.loop-place.place c.loop-place.output.items _ _ c.loop-place.invariant.written)

pub returns-in_err-append_entry-clause-err : goal.returns-in_err-append_entry-clause-err
returns-in_err-append_entry-clause-err g c =
    on_err_from c.from_residual-in_err-append_entry.result (wrote_no_more c.args.history.now c.loop-place.place c.loop-place.output.items _ _ c.loop-place.invariant.written)

pub returns-in_err-send_much-clause-err : goal.returns-in_err-send_much-clause-err
returns-in_err-send_much-clause-err g c =
    let entry = c.in_ok-entry.entry in
    let next = written_to_next c.args.history.now c.loop-place.place entry c.loop-place.today c.loop-place.output.items c.append_entry.new.output.items (g.W.Write.contents c.args.writer.now) (g.W.Write.contents c.loop-place.writer) c.in_ok-entry.ensures c.loop-place.invariant.today_is c.in_ok-append_entry.ensures c.loop-place.invariant.written in
    on_err_from c.from_residual-in_err-send_much.result (wrote_part c.args.history.now (c.loop-place.place + 1) c.append_entry.new.output.items _ _ _ c.in_err-send_much.ensures.err next)

pub loop-place-preserved : goal.loop-place-preserved
loop-place-preserved g c =
    let history = c.args.history.now in
    let place = c.loop-place.place in
    let entry = c.in_ok-entry.entry in
    let next = written_to_next history place entry c.loop-place.today c.loop-place.output.items c.append_entry.new.output.items (g.W.Write.contents c.args.writer.now) (g.W.Write.contents c.loop-place.writer) c.in_ok-entry.ensures c.loop-place.invariant.today_is c.in_ok-append_entry.ensures c.loop-place.invariant.written in
    let sent = c.in_ok-send_much.ensures.ok in
    record {
      written = written_to_sent history (place + 1) c.append_entry.new.output.items sent.0 c.send_much.new.output.items _ _ _ sent.1 sent.2 next;
      today_is = c.or-today.ensures
          ∙ ap (λ (d : Option Day). option_or d c.loop-place.today) c.opened_day.ensures
          ∙ ap (λ (d : Option Day). open_after d entry) c.loop-place.invariant.today_is
          ∙ sym (open_from-append None (take place history) entry)
          ∙ ap (λ (es : List Entry). open_from None es) (sym (next_taken history place entry c.in_ok-entry.ensures));
    }

pub returns-in_err-send-clause-err : goal.returns-in_err-send-clause-err
returns-in_err-send-clause-err g c =
    let part = subst (λ (held : List ℕ). WrotePart held (g.W.Write.contents c.loop-place.writer) (g.W.Write.contents c.send.new.writer)) c.deref.ensures.value c.in_err-send.ensures.err in
    on_err_from c.from_residual-in_err-send.result (wrote_part c.args.history.now c.loop-place.place c.loop-place.output.items _ _ _ part c.loop-place.invariant.written)
