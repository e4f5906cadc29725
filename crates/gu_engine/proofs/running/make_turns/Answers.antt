use Rattle.gu_engine.proofs.Words.{◌≡◌, true, false, inl, inr, refl, subst, ap, IsTurned, is_last}
use Rattle.gu_engine.proofs.Servings.{first_pause, is_first, none_is_held, part_of_served, part_of_so_far, part_of_turn, served_last, serving_none, serving_on, so_far_stopped}
use Rattle.gu_engine.proofs.running.make_turns.Goals as goal

pub turns-init : goal.turns-init
turns-init g c = record {
  pause = first_pause c.args.answerer.now;
  is_pause = is_first c.args.answerer.now c.args.backlog.now c.requires.empty;
  none_left = refl;
  served = serving_none g.R.Read.remaining g.W.Write.contents g.A.Answerer.engine c.args.answerer.now c.args.backlog.now.held.bytes.items c.args.reads.now c.args.writer.now c.requires.empty.none_held;
}

pub returns-in_err-turn-clause-part : goal.returns-in_err-turn-clause-part
returns-in_err-turn-clause-part g c =
    let run = c.turns.invariant in
    part_of_turn g.R.Read.remaining g.W.Write.contents g.A.Answerer.engine c.args.answerer.now run.pause c.args.reads.now c.turns.reads c.turn.new.reads c.args.writer.now c.turns.writer c.turn.new.writer c.turns.backlog c.turn.new.backlog run.served
    run.none_left c.turn.new.answerer (c.in_err-turn.ensures.part run.pause run.is_pause)

pub turns-smaller : goal.turns-smaller
turns-smaller g c =
    let run = c.turns.invariant in
    let more : is_last c.in_ok-turn.field-0 ≡ false = elim c.in-Again.is [ inl e ↦ ap is_last e | inr others ↦ elim others [ inl e ↦ ap is_last e | inr e ↦ ap is_last e ] ] in
    let on =
    serving_on g.R.Read.remaining g.W.Write.contents g.A.Answerer.engine c.args.answerer.now run.pause c.args.reads.now c.turns.reads c.turn.new.reads c.args.writer.now c.turns.writer c.turn.new.writer c.turns.backlog c.turn.new.backlog run.served
    run.none_left c.turn.new.answerer c.in_ok-turn.field-0 more (c.in_ok-turn.ensures.uncut c.requires.takes_all) (c.in_ok-turn.ensures.turned run.pause run.is_pause) in
    on.4

pub turns-preserved : goal.turns-preserved
turns-preserved g c =
    let run = c.turns.invariant in
    let more : is_last c.in_ok-turn.field-0 ≡ false = elim c.in-Again.is [ inl e ↦ ap is_last e | inr others ↦ elim others [ inl e ↦ ap is_last e | inr e ↦ ap is_last e ] ] in
    let on =
    serving_on g.R.Read.remaining g.W.Write.contents g.A.Answerer.engine c.args.answerer.now run.pause c.args.reads.now c.turns.reads c.turn.new.reads c.args.writer.now c.turns.writer c.turn.new.writer c.turns.backlog c.turn.new.backlog run.served
    run.none_left c.turn.new.answerer c.in_ok-turn.field-0 more (c.in_ok-turn.ensures.uncut c.requires.takes_all) (c.in_ok-turn.ensures.turned run.pause run.is_pause) in
    record { pause = on.0; is_pause = on.1; none_left = on.2; served = on.3 }

pub returns-in-Done-clause-done : goal.returns-in-Done-clause-done
returns-in-Done-clause-done g c =
    let run = c.turns.invariant in
    let last : is_last c.in_ok-turn.field-0 ≡ true = elim c.in-Done.is [ inl e ↦ ap is_last e | inr e ↦ ap is_last e ] in
    served_last g.R.Read.remaining g.W.Write.contents g.A.Answerer.engine c.args.answerer.now run.pause c.args.reads.now c.turns.reads c.turn.new.reads c.args.writer.now c.turns.writer c.turn.new.writer c.turns.backlog c.turn.new.backlog run.served
    run.none_left c.turn.new.answerer c.in_ok-turn.field-0 c.in-Done.is (c.in_ok-turn.ensures.turned run.pause run.is_pause)
    (none_is_held c.turn.new.backlog.held.bytes.items c.in_ok-turn.field-0 (c.in_ok-turn.ensures.sent c.requires.takes_all) last)

pub returns-in-Done-clause-part : goal.returns-in-Done-clause-part
returns-in-Done-clause-part g c = part_of_served g.A.Answerer.engine c.args.answerer.now c.turn.new.answerer _ (returns-in-Done-clause-done g c)

so_far : goal.returns-in-Stopped-clause-answered
so_far g c read =
    let run = c.turns.invariant in
    so_far_stopped g.R.Read.remaining g.W.Write.contents g.A.Answerer.engine c.args.answerer.now run.pause c.args.reads.now c.turns.reads c.turn.new.reads c.args.writer.now c.turns.writer c.turn.new.writer c.turns.backlog c.turn.new.backlog run.served
    run.none_left c.turn.new.answerer (subst (IsTurned g.A.Answerer.engine g.R.Read.remaining run.pause c.turn.new.answerer _) c.in-Stopped.is (c.in_ok-turn.ensures.turned run.pause run.is_pause))
    (none_is_held c.turn.new.backlog.held.bytes.items c.in_ok-turn.field-0 (c.in_ok-turn.ensures.sent c.requires.takes_all) (ap is_last c.in-Stopped.is))

pub returns-in-Stopped-clause-answered : goal.returns-in-Stopped-clause-answered
returns-in-Stopped-clause-answered g c read = so_far g c read

pub returns-in-Stopped-clause-part : goal.returns-in-Stopped-clause-part
returns-in-Stopped-clause-part g c = part_of_so_far g.A.Answerer.engine c.args.answerer.now c.turn.new.answerer _ (so_far g c refl)
