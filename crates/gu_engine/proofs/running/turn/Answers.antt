use Rattle.gu_engine.proofs.Words.{◌<◌, ◌≤◌, [], length, None, Some, inr, refl, sym, subst, ◌∙◌, rules, on_err_from, Gives, TurnsToPart, work_of, Backlog}
use Rattle.gu_engine.specs.declared.held.Held.{Held}
use Rattle.gu_engine.proofs.Answering.{part_some}
use Rattle.gu_engine.proofs.Holding.{fewer_held, gives_nothing, gives_then, some_given, some_then}
use Rattle.gu_engine.proofs.TurnParts.{found_here, no_more, none_is_left, not_full, part_idle, part_last, part_turn, turned_last, turned_over, turned_stopped, turns_made, wrote_gone, wrote_gone_then}
use Rattle.gu_engine.proofs.running.turn.Goals as goal

pub returns-in_err-send_unless_ahead-clause-part : goal.returns-in_err-send_unless_ahead-clause-part
returns-in_err-send_unless_ahead-clause-part g c =
    let work = work_of {R = g.row.R.Denot} g.W.Write.contents c.args.reads.now c.args.reads.now c.args.writer.now c.send_unless_ahead.new.writer c.args.backlog.now (record c.args.backlog.now { held = c.send_unless_ahead.new.held }) in
    let part : TurnsToPart g.A.Answerer.engine g.R.Read.remaining c.args.answerer.now c.args.answerer.now work =
    λ old is.
    part_idle g.A.Answerer.engine g.R.Read.remaining old c.args.answerer.now work is c.args.answerer.now None refl
    (wrote_gone_then c.args.backlog.now.held.bytes.items c.args.backlog.now.held.bytes.items _ _ _ (gives_nothing c.args.backlog.now.held.bytes.items _) c.in_err-send_unless_ahead.ensures.part) in
    on_err_from _ part

pub returns-in_err-turned-clause-part : goal.returns-in_err-turned-clause-part
returns-in_err-turned-clause-part g c =
    let gone =
    subst (λ (h : Held g.row.O.Denot). Gives [] c.args.backlog.now.held.bytes.items h.bytes.items (g.W.Write.contents c.args.writer.now) (g.W.Write.contents c.send_unless_ahead.new.writer)) (sym c.take_in.ensures.held)
    c.in_ok-send_unless_ahead.ensures.given in
    let work = work_of {R = g.row.R.Denot} g.W.Write.contents c.args.reads.now c.take_in.new.reads c.args.writer.now c.send_unless_ahead.new.writer c.args.backlog.now c.take_in.new.self in
    let part : TurnsToPart g.A.Answerer.engine g.R.Read.remaining c.args.answerer.now c.args.answerer.now work =
    λ old is.
    part_idle g.A.Answerer.engine g.R.Read.remaining old c.args.answerer.now work is c.args.answerer.now (Some c.in_err-turned.ensures.unheld.0) c.in_err-turned.ensures.unheld.1 (wrote_gone c.args.backlog.now.held.bytes.items _ _ _ gone) in
    on_err_from _ part

pub returns-in_err-let_go-clause-part : goal.returns-in_err-let_go-clause-part
returns-in_err-let_go-clause-part g c =
    let gone =
    subst (λ (h : Held g.row.O.Denot). Gives [] c.args.backlog.now.held.bytes.items h.bytes.items (g.W.Write.contents c.args.writer.now) (g.W.Write.contents c.send_unless_ahead.new.writer)) (sym c.take_in.ensures.held)
    c.in_ok-send_unless_ahead.ensures.given in
    let before : Backlog g.row.O.Denot = record c.args.backlog.now { held = c.send_unless_ahead.new.held } in
    let work = work_of {R = g.row.R.Denot} g.W.Write.contents c.args.reads.now c.take_in.new.reads c.args.writer.now c.let_go.new.writer c.args.backlog.now (record c.take_in.new.self { held = c.let_go.new.self }) in
    let part : TurnsToPart g.A.Answerer.engine g.R.Read.remaining c.args.answerer.now c.args.answerer.now work =
    λ old is.
    part_last g.A.Answerer.engine g.R.Read.remaining old c.args.answerer.now work is c.args.answerer.now
    (no_more g.R.Read.remaining c.args.reads.now c.take_in.new.reads before c.take_in.new.self c.in_ok-turned.turned (sym c.if-is_last.ensures) c.in_ok-turned.ensures.taken)
    (wrote_gone_then c.args.backlog.now.held.bytes.items c.take_in.new.self.held.bytes.items _ _ _ gone c.in_err-let_go.ensures.part) in
    on_err_from _ part

pub returns-then-is_last-clause-turned : goal.returns-then-is_last-clause-turned
returns-then-is_last-clause-turned g c old is =
    let gone =
    subst (λ (h : Held g.row.O.Denot). Gives [] c.args.backlog.now.held.bytes.items h.bytes.items (g.W.Write.contents c.args.writer.now) (g.W.Write.contents c.send_unless_ahead.new.writer)) (sym c.take_in.ensures.held)
    c.in_ok-send_unless_ahead.ensures.given in
    let few : length c.send_unless_ahead.new.held.bytes.items ≤ 65536 = search rules in
    let room = subst (λ (h : Held g.row.O.Denot). length h.bytes.items ≤ 65536) (sym c.take_in.ensures.held) few in
    let before : Backlog g.row.O.Denot = record c.args.backlog.now { held = c.send_unless_ahead.new.held } in
    let work = work_of {R = g.row.R.Denot} g.W.Write.contents c.args.reads.now c.take_in.new.reads c.args.writer.now c.let_go.new.writer c.args.backlog.now (record c.take_in.new.self { held = c.let_go.new.self }) in
    turned_last g.A.Answerer.engine g.R.Read.remaining old c.args.answerer.now work is before c.take_in.new.self c.in_ok-turned.turned (sym c.if-is_last.ensures) c.in_ok-turned.ensures.taken refl refl refl refl
    (gives_then [] [] c.args.backlog.now.held.bytes.items c.take_in.new.self.held.bytes.items c.let_go.new.self.bytes.items _ _ _ gone c.in_ok-let_go.ensures.given) (fewer_held c.take_in.new.self.held.bytes.items c.let_go.new.self.bytes.items _ _ c.in_ok-let_go.ensures.given room)

pub returns-in_err-let_go-2-clause-part : goal.returns-in_err-let_go-2-clause-part
returns-in_err-let_go-2-clause-part g c =
    let gone =
    subst (λ (h : Held g.row.O.Denot). Gives [] c.args.backlog.now.held.bytes.items h.bytes.items (g.W.Write.contents c.args.writer.now) (g.W.Write.contents c.send_unless_ahead.new.writer)) (sym c.take_in.ensures.held)
    c.in_ok-send_unless_ahead.ensures.given in
    let before : Backlog g.row.O.Denot = record c.args.backlog.now { held = c.send_unless_ahead.new.held } in
    let work = work_of {R = g.row.R.Denot} g.W.Write.contents c.args.reads.now c.take_in.new.reads c.args.writer.now c.let_go-in_default.new.writer c.args.backlog.now (record c.take_in.new.self { held = c.let_go-in_default.new.self }) in
    let part : TurnsToPart g.A.Answerer.engine g.R.Read.remaining c.args.answerer.now c.begin_turn.new.self work =
    λ old is.
    let found = found_here g.A.Answerer.engine g.R.Read.remaining old c.args.answerer.now work is before c.take_in.new.self c.in_ok-turned.turned (sym c.if-is_last.ensures) c.in_ok-turned.ensures.taken refl refl in
    part_idle g.A.Answerer.engine g.R.Read.remaining old c.args.answerer.now work is c.begin_turn.new.self found.0.read found.0.reads
    (wrote_gone_then c.args.backlog.now.held.bytes.items c.take_in.new.self.held.bytes.items _ _ _ gone c.in_err-let_go-2.ensures.part) in
    on_err_from _ part

pub returns-in_default-clause-turned : goal.returns-in_default-clause-turned
returns-in_default-clause-turned g c old is =
    let gone =
    subst (λ (h : Held g.row.O.Denot). Gives [] c.args.backlog.now.held.bytes.items h.bytes.items (g.W.Write.contents c.args.writer.now) (g.W.Write.contents c.send_unless_ahead.new.writer)) (sym c.take_in.ensures.held)
    c.in_ok-send_unless_ahead.ensures.given in
    let few : length c.send_unless_ahead.new.held.bytes.items ≤ 65536 = search rules in
    let room = subst (λ (h : Held g.row.O.Denot). length h.bytes.items ≤ 65536) (sym c.take_in.ensures.held) few in
    let before : Backlog g.row.O.Denot = record c.args.backlog.now { held = c.send_unless_ahead.new.held } in
    let work = work_of {R = g.row.R.Denot} g.W.Write.contents c.args.reads.now c.take_in.new.reads c.args.writer.now c.let_go-in_default.new.writer c.args.backlog.now (record c.take_in.new.self { held = c.let_go-in_default.new.self }) in
    let found = found_here g.A.Answerer.engine g.R.Read.remaining old c.args.answerer.now work is before c.take_in.new.self c.in_ok-turned.turned (sym c.if-is_last.ensures) c.in_ok-turned.ensures.taken refl refl in
    turned_stopped g.A.Answerer.engine g.R.Read.remaining old c.args.answerer.now work is c.begin_turn.new.self c.take_in.new.self found.0 c.in_default.ensures.stopped
    (gives_then [] [] c.args.backlog.now.held.bytes.items c.take_in.new.self.held.bytes.items c.let_go-in_default.new.self.bytes.items _ _ _ gone c.in_ok-let_go-2.ensures.given) (fewer_held c.take_in.new.self.held.bytes.items c.let_go-in_default.new.self.bytes.items _ _ c.in_ok-let_go-2.ensures.given room)

pub returns-in_err-answer_left-clause-part : goal.returns-in_err-answer_left-clause-part
returns-in_err-answer_left-clause-part g c =
    let gone =
    subst (λ (h : Held g.row.O.Denot). Gives [] c.args.backlog.now.held.bytes.items h.bytes.items (g.W.Write.contents c.args.writer.now) (g.W.Write.contents c.send_unless_ahead.new.writer)) (sym c.take_in.ensures.held)
    c.in_ok-send_unless_ahead.ensures.given in
    let before : Backlog g.row.O.Denot = record c.args.backlog.now { held = c.send_unless_ahead.new.held } in
    let work = work_of {R = g.row.R.Denot} g.W.Write.contents c.args.reads.now c.take_in.new.reads c.args.writer.now c.answer_left.new.writer c.args.backlog.now c.answer_left.new.backlog in
    let part : TurnsToPart g.A.Answerer.engine g.R.Read.remaining c.args.answerer.now c.answer_left.new.answerer work =
    λ old is.
    let found = found_here g.A.Answerer.engine g.R.Read.remaining old c.args.answerer.now work is before c.take_in.new.self c.in_ok-turned.turned (sym c.if-is_last.ensures) c.in_ok-turned.ensures.taken refl refl in
    part_turn g.A.Answerer.engine g.R.Read.remaining old c.args.answerer.now work is c.begin_turn.new.self c.answer_left.new.answerer c.in-Ok.now c.take_in.new.self _ found.0 c.in-Ok.ensures.begun gone
    (c.in_err-answer_left.ensures.part found.0.next found.0.brought found.0.new_is) in
    on_err_from _ part

pub returns-then-is_cut-clause-turned : goal.returns-then-is_cut-clause-turned
returns-then-is_cut-clause-turned g c old is =
    let gone =
    subst (λ (h : Held g.row.O.Denot). Gives [] c.args.backlog.now.held.bytes.items h.bytes.items (g.W.Write.contents c.args.writer.now) (g.W.Write.contents c.send_unless_ahead.new.writer)) (sym c.take_in.ensures.held)
    c.in_ok-send_unless_ahead.ensures.given in
    let few : length c.send_unless_ahead.new.held.bytes.items ≤ 65536 = search rules in
    let room = subst (λ (h : Held g.row.O.Denot). length h.bytes.items ≤ 65536) (sym c.take_in.ensures.held) few in
    let before : Backlog g.row.O.Denot = record c.args.backlog.now { held = c.send_unless_ahead.new.held } in
    let work = work_of {R = g.row.R.Denot} g.W.Write.contents c.args.reads.now c.take_in.new.reads c.args.writer.now c.answer_left.new.writer c.args.backlog.now c.answer_left.new.backlog in
    let found = found_here g.A.Answerer.engine g.R.Read.remaining old c.args.answerer.now work is before c.take_in.new.self c.in_ok-turned.turned (sym c.if-is_last.ensures) c.in_ok-turned.ensures.taken refl refl in
    let left = c.in_ok-answer_left.ensures.answered found.0.next found.0.brought found.0.new_is in
    let turns =
    turns_made g.A.Answerer.engine g.R.Read.remaining old c.args.answerer.now work is c.begin_turn.new.self c.answer_left.new.answerer c.in-Ok.now c.take_in.new.self c.answer_left.new.backlog _ _ found.0 (sym c.if-is_done.ensures)
    c.in-Ok.ensures.begun gone room left (gives_nothing c.answer_left.new.backlog.held.bytes.items _) refl refl in
    let full : 65536 < length c.answer_left.new.backlog.held.bytes.items = search rules in
    (full, inr turns.0)

pub returns-in_err-send_unless_ahead-2-clause-part : goal.returns-in_err-send_unless_ahead-2-clause-part
returns-in_err-send_unless_ahead-2-clause-part g c =
    let gone =
    subst (λ (h : Held g.row.O.Denot). Gives [] c.args.backlog.now.held.bytes.items h.bytes.items (g.W.Write.contents c.args.writer.now) (g.W.Write.contents c.send_unless_ahead.new.writer)) (sym c.take_in.ensures.held)
    c.in_ok-send_unless_ahead.ensures.given in
    let before : Backlog g.row.O.Denot = record c.args.backlog.now { held = c.send_unless_ahead.new.held } in
    let work = work_of {R = g.row.R.Denot} g.W.Write.contents c.args.reads.now c.take_in.new.reads c.args.writer.now c.send_unless_ahead-2.new.writer c.args.backlog.now (record c.answer_left.new.backlog { held = c.send_unless_ahead-2.new.held }) in
    let part : TurnsToPart g.A.Answerer.engine g.R.Read.remaining c.args.answerer.now c.answer_left.new.answerer work =
    λ old is.
    let found = found_here g.A.Answerer.engine g.R.Read.remaining old c.args.answerer.now work is before c.take_in.new.self c.in_ok-turned.turned (sym c.if-is_last.ensures) c.in_ok-turned.ensures.taken refl refl in
    let left = c.in_ok-answer_left.ensures.answered found.0.next found.0.brought found.0.new_is in
    part_turn g.A.Answerer.engine g.R.Read.remaining old c.args.answerer.now work is c.begin_turn.new.self c.answer_left.new.answerer c.in-Ok.now c.take_in.new.self _ found.0 c.in-Ok.ensures.begun gone
    (part_some g.A.Answerer.engine c.in-Ok.now c.begin_turn.new.self c.answer_left.new.answerer found.0.brought left.text c.take_in.new.self.held.bytes.items c.answer_left.new.backlog.held.bytes.items _ _ _ left.some left.gave
    c.in_err-send_unless_ahead-2.ensures.part) in
    on_err_from _ part

pub returns-then-is_done-2-clause-turned : goal.returns-then-is_done-2-clause-turned
returns-then-is_done-2-clause-turned g c old is =
    let gone =
    subst (λ (h : Held g.row.O.Denot). Gives [] c.args.backlog.now.held.bytes.items h.bytes.items (g.W.Write.contents c.args.writer.now) (g.W.Write.contents c.send_unless_ahead.new.writer)) (sym c.take_in.ensures.held)
    c.in_ok-send_unless_ahead.ensures.given in
    let few : length c.send_unless_ahead.new.held.bytes.items ≤ 65536 = search rules in
    let room = subst (λ (h : Held g.row.O.Denot). length h.bytes.items ≤ 65536) (sym c.take_in.ensures.held) few in
    let before : Backlog g.row.O.Denot = record c.args.backlog.now { held = c.send_unless_ahead.new.held } in
    let work = work_of {R = g.row.R.Denot} g.W.Write.contents c.args.reads.now c.take_in.new.reads c.args.writer.now c.send_unless_ahead-2.new.writer c.args.backlog.now (record c.answer_left.new.backlog { held = c.send_unless_ahead-2.new.held }) in
    let found = found_here g.A.Answerer.engine g.R.Read.remaining old c.args.answerer.now work is before c.take_in.new.self c.in_ok-turned.turned (sym c.if-is_last.ensures) c.in_ok-turned.ensures.taken refl refl in
    let left = c.in_ok-answer_left.ensures.answered found.0.next found.0.brought found.0.new_is in
    let turns =
    turns_made g.A.Answerer.engine g.R.Read.remaining old c.args.answerer.now work is c.begin_turn.new.self c.answer_left.new.answerer c.in-Ok.now c.take_in.new.self c.answer_left.new.backlog _ _ found.0 (sym c.if-is_done.ensures)
    c.in-Ok.ensures.begun gone room left c.in_ok-send_unless_ahead-2.ensures.given refl refl in
    (sym c.if-is_done-2.ensures, inr turns.0)

pub returns-clause-turned : goal.returns-clause-turned
returns-clause-turned g c old is =
    let gone =
    subst (λ (h : Held g.row.O.Denot). Gives [] c.args.backlog.now.held.bytes.items h.bytes.items (g.W.Write.contents c.args.writer.now) (g.W.Write.contents c.send_unless_ahead.new.writer)) (sym c.take_in.ensures.held)
    c.in_ok-send_unless_ahead.ensures.given in
    let few : length c.send_unless_ahead.new.held.bytes.items ≤ 65536 = search rules in
    let room = subst (λ (h : Held g.row.O.Denot). length h.bytes.items ≤ 65536) (sym c.take_in.ensures.held) few in
    let before : Backlog g.row.O.Denot = record c.args.backlog.now { held = c.send_unless_ahead.new.held } in
    let work = work_of {R = g.row.R.Denot} g.W.Write.contents c.args.reads.now c.take_in.new.reads c.args.writer.now c.send_unless_ahead-2.new.writer c.args.backlog.now (record c.answer_left.new.backlog { held = c.send_unless_ahead-2.new.held }) in
    let found = found_here g.A.Answerer.engine g.R.Read.remaining old c.args.answerer.now work is before c.take_in.new.self c.in_ok-turned.turned (sym c.if-is_last.ensures) c.in_ok-turned.ensures.taken refl refl in
    let left = c.in_ok-answer_left.ensures.answered found.0.next found.0.brought found.0.new_is in
    let turns =
    turns_made g.A.Answerer.engine g.R.Read.remaining old c.args.answerer.now work is c.begin_turn.new.self c.answer_left.new.answerer c.in-Ok.now c.take_in.new.self c.answer_left.new.backlog _ _ found.0 (sym c.if-is_done.ensures)
    c.in-Ok.ensures.begun gone room left c.in_ok-send_unless_ahead-2.ensures.given refl refl in
    let little : length c.answer_left.new.backlog.held.bytes.items ≤ 65536 = search rules in
    let goes_on = sym c.if-is_done-2.ensures in
    let none = none_is_left left.left _ c.answer_left.new.backlog.held.bytes.items left.cut goes_on little in
    turned_over g.A.Answerer.engine g.R.Read.remaining old c.args.answerer.now work is c.answer_left.new.answerer c.in_ok-turned.turned turns.0 found.0.read (sym c.if-is_last.ensures)
    (not_full g.R.Read.remaining c.args.reads.now c.take_in.new.reads before c.take_in.new.self c.in_ok-turned.turned c.in_ok-turned.ensures.taken) (turns.1 ∙ none) goes_on turns.2 found.1

pub returns-then-is_last-clause-gave : goal.returns-then-is_last-clause-gave
returns-then-is_last-clause-gave g c =
    let gone =
    subst (λ (h : Held g.row.O.Denot). Gives [] c.args.backlog.now.held.bytes.items h.bytes.items (g.W.Write.contents c.args.writer.now) (g.W.Write.contents c.send_unless_ahead.new.writer)) (sym c.take_in.ensures.held)
    c.in_ok-send_unless_ahead.ensures.given in
    some_then [] c.args.backlog.now.held.bytes.items c.take_in.new.self.held.bytes.items c.let_go.new.self.bytes.items _ _ _ (some_given [] _ _ _ _ gone) c.in_ok-let_go.ensures.given

pub returns-in_default-clause-gave : goal.returns-in_default-clause-gave
returns-in_default-clause-gave g c =
    let gone =
    subst (λ (h : Held g.row.O.Denot). Gives [] c.args.backlog.now.held.bytes.items h.bytes.items (g.W.Write.contents c.args.writer.now) (g.W.Write.contents c.send_unless_ahead.new.writer)) (sym c.take_in.ensures.held)
    c.in_ok-send_unless_ahead.ensures.given in
    some_then [] c.args.backlog.now.held.bytes.items c.take_in.new.self.held.bytes.items c.let_go-in_default.new.self.bytes.items _ _ _ (some_given [] _ _ _ _ gone) c.in_ok-let_go-2.ensures.given

pub returns-then-is_cut-clause-gave : goal.returns-then-is_cut-clause-gave
returns-then-is_cut-clause-gave g c =
    let gone =
    subst (λ (h : Held g.row.O.Denot). Gives [] c.args.backlog.now.held.bytes.items h.bytes.items (g.W.Write.contents c.args.writer.now) (g.W.Write.contents c.send_unless_ahead.new.writer)) (sym c.take_in.ensures.held)
    c.in_ok-send_unless_ahead.ensures.given in
    let gave = c.in_ok-answer_left.ensures.gave in
    some_then gave.text c.args.backlog.now.held.bytes.items c.take_in.new.self.held.bytes.items c.answer_left.new.backlog.held.bytes.items _ _ _ (some_given [] _ _ _ _ gone) gave.gave

pub returns-then-is_done-2-clause-gave : goal.returns-then-is_done-2-clause-gave
returns-then-is_done-2-clause-gave g c =
    let gone =
    subst (λ (h : Held g.row.O.Denot). Gives [] c.args.backlog.now.held.bytes.items h.bytes.items (g.W.Write.contents c.args.writer.now) (g.W.Write.contents c.send_unless_ahead.new.writer)) (sym c.take_in.ensures.held)
    c.in_ok-send_unless_ahead.ensures.given in
    let gave = c.in_ok-answer_left.ensures.gave in
    let answered = some_then gave.text c.args.backlog.now.held.bytes.items c.take_in.new.self.held.bytes.items c.answer_left.new.backlog.held.bytes.items _ _ _ (some_given [] _ _ _ _ gone) gave.gave in
    some_then [] c.args.backlog.now.held.bytes.items c.answer_left.new.backlog.held.bytes.items c.send_unless_ahead-2.new.held.bytes.items _ _ _ answered c.in_ok-send_unless_ahead-2.ensures.given

pub returns-clause-gave : goal.returns-clause-gave
returns-clause-gave g c =
    let gone =
    subst (λ (h : Held g.row.O.Denot). Gives [] c.args.backlog.now.held.bytes.items h.bytes.items (g.W.Write.contents c.args.writer.now) (g.W.Write.contents c.send_unless_ahead.new.writer)) (sym c.take_in.ensures.held)
    c.in_ok-send_unless_ahead.ensures.given in
    let gave = c.in_ok-answer_left.ensures.gave in
    let answered = some_then gave.text c.args.backlog.now.held.bytes.items c.take_in.new.self.held.bytes.items c.answer_left.new.backlog.held.bytes.items _ _ _ (some_given [] _ _ _ _ gone) gave.gave in
    some_then [] c.args.backlog.now.held.bytes.items c.answer_left.new.backlog.held.bytes.items c.send_unless_ahead-2.new.held.bytes.items _ _ _ answered c.in_ok-send_unless_ahead-2.ensures.given
