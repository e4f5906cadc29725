use Rattle.std.proofs.Common.{◌≡◌, ℕ, List, Err, inl, inr, subst, ap, rules, ◌∙◌}
use Rattle.std.specs.Io.KnownBytes.{Appends}
use Rattle.gu_streams.specs.Streams.{streams_of}
use Rattle.gu_streams.specs.Written.{WrotePart}
use Rattle.gu_streams.proofs.Writing.{error_passed, on_ok_then, either_way, wrote_none, wrote_all}
use Rattle.gu_capture.specs.Capture.{Capture}
use Rattle.gu_capture.specs.PositionText.{positions_text}
use Rattle.gu_capture.proofs.Capturings.{nothing_captured, captured_in_part, captured_but_lines, captured_all, captured_so_far}
use Rattle.gu_capture.proofs.Joining.{Answered, AnsweredAll, AnsweredInPart, answered_all, answered_in_part, answered_so_far}
use Rattle.gu_capture.proofs.capturing.capture.Goals as goal

pub returns-in_err-capturing-clause-part : goal.returns-in_err-capturing-clause-part
returns-in_err-capturing-clause-part g c = nothing_captured c.args.reference c.args.day _ _ _

pub returns-in_err-run-clause-part : goal.returns-in_err-run-clause-part
returns-in_err-run-clause-part g c =
    let streams = streams_of g.R.Read.remaining g.W.Write.contents c.args.reads.now c.run.new.reads c.args.writer.now c.run.new.writer in
    captured_in_part c.args.reference c.args.day streams (subst (λ (s : Capture). AnsweredInPart s streams) c.in_ok-capturing.ensures (answered_in_part _ streams c.run.ensures.part))

pub returns-in_err-lines-clause-part : goal.returns-in_err-lines-clause-part
returns-in_err-lines-clause-part g c =
    let streams = streams_of g.R.Read.remaining g.W.Write.contents c.args.reads.now c.run.new.reads c.args.writer.now c.run.new.writer in
    let served = subst (λ (s : Capture). AnsweredAll s c.run.new.answerer streams) c.in_ok-capturing.ensures (answered_all _ c.run.new.answerer streams c.in_ok-run.ensures.done) in
    captured_but_lines c.args.reference c.args.day c.run.new.answerer streams _ served (wrote_none _ _)

pub returns-clause-done : goal.returns-clause-done
returns-clause-done g c =
    let streams = streams_of g.R.Read.remaining g.W.Write.contents c.args.reads.now c.run.new.reads c.args.writer.now c.run.new.writer in
    let served = subst (λ (s : Capture). AnsweredAll s c.run.new.answerer streams) c.in_ok-capturing.ensures (answered_all _ c.run.new.answerer streams c.in_ok-run.ensures.done) in
    let text : c.deref.result.now ≡ positions_text (c.run.new.answerer).book = c.deref.ensures.value ∙ c.in_ok-lines.ensures ∙ ap (λ (s : Capture). positions_text s.book) c.capturing.view_is in
    on_ok_then c.send.result
    (λ sent. captured_all c.args.reference c.args.day c.run.new.answerer streams _ served (subst (λ (t : List ℕ). Appends (g.W.Write.contents c.run.new.writer) (g.W.Write.contents c.send.new.writer) t) text sent))
    c.send.ensures.ok

pub returns-clause-part : goal.returns-clause-part
returns-clause-part g c =
    let streams = streams_of g.R.Read.remaining g.W.Write.contents c.args.reads.now c.run.new.reads c.args.writer.now c.run.new.writer in
    let served = subst (λ (s : Capture). AnsweredAll s c.run.new.answerer streams) c.in_ok-capturing.ensures (answered_all _ c.run.new.answerer streams c.in_ok-run.ensures.done) in
    let text : c.deref.result.now ≡ positions_text (c.run.new.answerer).book = c.deref.ensures.value ∙ c.in_ok-lines.ensures ∙ ap (λ (s : Capture). positions_text s.book) c.capturing.view_is in
    either_way c.send.result
    (λ sent. captured_but_lines c.args.reference c.args.day c.run.new.answerer streams _ served (wrote_all _ _ _ (subst (λ (t : List ℕ). Appends (g.W.Write.contents c.run.new.writer) (g.W.Write.contents c.send.new.writer) t) text sent)))
    (λ part. captured_but_lines c.args.reference c.args.day c.run.new.answerer streams _ served (subst (λ (t : List ℕ). WrotePart t (g.W.Write.contents c.run.new.writer) (g.W.Write.contents c.send.new.writer)) text part))
    c.send.ensures.ok c.send.ensures.err

pub returns-in_err-run-clause-answered : goal.returns-in_err-run-clause-answered
returns-in_err-run-clause-answered g c read =
    let same = error_passed c.from_residual-in_err-run.result _ _ c.from_residual-in_err-run.ensures.1 read in
    let streams = streams_of g.R.Read.remaining g.W.Write.contents c.args.reads.now c.run.new.reads c.args.writer.now c.run.new.writer in
    let all = subst (λ (s : Capture). Answered s c.run.new.answerer streams) c.in_ok-capturing.ensures (answered_so_far _ c.run.new.answerer streams (c.in_err-run.ensures.answered (ap Err same))) in
    captured_so_far c.args.reference c.args.day c.run.new.answerer streams all

pub returns-in_err-run-clause-stopped : goal.returns-in_err-run-clause-stopped
returns-in_err-run-clause-stopped g c read =
    let same = error_passed c.from_residual-in_err-run.result _ _ c.from_residual-in_err-run.ensures.1 read in
    elim (c.in_err-run.ensures.stopped (ap Err same)) [ inl stopped ↦ stopped | inr fails ↦ absurd fails.1 ]

pub returns-in_err-lines-clause-answered : goal.returns-in_err-lines-clause-answered
returns-in_err-lines-clause-answered g c read =
    let none : ⊥ = search rules in
    absurd none

pub returns-clause-answered : goal.returns-clause-answered
returns-clause-answered g c read =
    let none : ⊥ = search rules in
    absurd none
