use Rattle.gu_script.proofs.Words.{◌≡◌, ◌<◌, ap, refl, sym, subst, rules, arith, Result, Course, Gives, Place, BadLine, Read, error_passed}
use Rattle.std.specs.Result.{is_err}
use Rattle.std.proofs.lemmas.Grind.{common_steps}
use Rattle.gu_streams.specs.Reads.{bytes_left, reads_left, waits_left}
use Rattle.gu_streams.specs.Streams.{streams_of}
use Rattle.gu_script.specs.ScriptRuns.{Replayed}
use Rattle.gu_script.specs.declared.error.ScriptError.{ScriptError}
use Rattle.gu_script.proofs.ReplayRuns.{AfterEnd, AfterPiece, in_part_now, given_counted, room_more, some_left, end_in_part, played_so_far, playing_none, playing_still, piece_given, end_given}
use Rattle.gu_streams.proofs.StoppedReads.{an_error_stops}
use Rattle.gu_script.proofs.playing.play_from.Goals as goal

pub reading-init : goal.reading-init
reading-init g c =
    let count = c.requires.unread.0 in
    record {
      playing = playing_none (c.args.script).course c.args.script _ _ refl count c.requires.unread.1;
      room = omega (arith, count);
    }

pub returns-in-Ok-eq0-clause-done : goal.returns-in-Ok-eq0-clause-done
returns-in-Ok-eq0-clause-done g c =
    let run = c.reading.invariant.playing in
    let none : c.in-Ok-eq0.field-0 ≡ 0 = search rules in
    let all = end_given (c.args.script).course (waits_left c.args.reads.now) (waits_left c.read.new.self) c.answer_end.result c.reading.script c.answer_end.new.script.course _ _ _ _ _ _ _ _ none run c.in-Ok-eq0.ensures.bytes.0 (c.in-Ok-eq0.ensures.bytes.1 none (search rules)) c.answer_end.ensures in
    let done = subst (λ (r : Result (Unit {0}) ScriptError). AfterEnd (c.args.script).course (waits_left c.args.reads.now) (waits_left c.read.new.self) r c.answer_end.new.script.course (bytes_left g.R.Read.remaining c.args.reads.now) (bytes_left g.R.Read.remaining c.read.new.self) (g.W.Write.contents c.args.writer.now) (g.W.Write.contents c.answer_end.new.writer)) c.in_ok-answer_end-in-Ok-eq0.was all in
    subst (λ (last : Course). Replayed (c.args.script).course last (streams_of g.R.Read.remaining g.W.Write.contents c.args.reads.now c.read.new.self c.args.writer.now c.answer_end.new.writer)) (sym c.into_world.ensures) done

pub returns-in-Ok-eq0-clause-part : goal.returns-in-Ok-eq0-clause-part
returns-in-Ok-eq0-clause-part g c =
    let run = c.reading.invariant.playing in
    let none : c.in-Ok-eq0.field-0 ≡ 0 = search rules in
    let all = end_given (c.args.script).course (waits_left c.args.reads.now) (waits_left c.read.new.self) c.answer_end.result c.reading.script c.answer_end.new.script.course _ _ _ _ _ _ _ _ none run c.in-Ok-eq0.ensures.bytes.0 (c.in-Ok-eq0.ensures.bytes.1 none (search rules)) c.answer_end.ensures in
    end_in_part (c.args.script).course _ _ c.answer_end.result c.answer_end.new.script.course _ _ _ _ all

pub returns-in_err-answer_end-in-Ok-eq0-clause-bad_line : goal.returns-in_err-answer_end-in-Ok-eq0-clause-bad_line
returns-in_err-answer_end-in-Ok-eq0-clause-bad_line g c n is =
    let run = c.reading.invariant.playing in
    let none : c.in-Ok-eq0.field-0 ≡ 0 = search rules in
    let all = end_given (c.args.script).course (waits_left c.args.reads.now) (waits_left c.read.new.self) c.answer_end.result c.reading.script c.answer_end.new.script.course _ _ _ _ _ _ _ _ none run c.in-Ok-eq0.ensures.bytes.0 (c.in-Ok-eq0.ensures.bytes.1 none (search rules)) c.answer_end.ensures in
    let stopped = subst (λ (r : Result (Unit {0}) ScriptError). AfterEnd (c.args.script).course (waits_left c.args.reads.now) (waits_left c.read.new.self) r c.answer_end.new.script.course (bytes_left g.R.Read.remaining c.args.reads.now) (bytes_left g.R.Read.remaining c.read.new.self) (g.W.Write.contents c.args.writer.now) (g.W.Write.contents c.answer_end.new.writer)) c.in_err-answer_end-in-Ok-eq0.was all in
    stopped.bad_line n (error_passed c.from_residual.result c.in_err-answer_end-in-Ok-eq0.field-0.0 (BadLine n) c.from_residual.ensures.1 is)

pub returns-in_err-answer_end-in-Ok-eq0-clause-answered : goal.returns-in_err-answer_end-in-Ok-eq0-clause-answered
returns-in_err-answer_end-in-Ok-eq0-clause-answered g c is =
    let run = c.reading.invariant.playing in
    let none : c.in-Ok-eq0.field-0 ≡ 0 = search rules in
    let all = end_given (c.args.script).course (waits_left c.args.reads.now) (waits_left c.read.new.self) c.answer_end.result c.reading.script c.answer_end.new.script.course _ _ _ _ _ _ _ _ none run c.in-Ok-eq0.ensures.bytes.0 (c.in-Ok-eq0.ensures.bytes.1 none (search rules)) c.answer_end.ensures in
    let stopped = subst (λ (r : Result (Unit {0}) ScriptError). AfterEnd (c.args.script).course (waits_left c.args.reads.now) (waits_left c.read.new.self) r c.answer_end.new.script.course (bytes_left g.R.Read.remaining c.args.reads.now) (bytes_left g.R.Read.remaining c.read.new.self) (g.W.Write.contents c.args.writer.now) (g.W.Write.contents c.answer_end.new.writer)) c.in_err-answer_end-in-Ok-eq0.was all in
    absurd (stopped.not_read (error_passed c.from_residual.result c.in_err-answer_end-in-Ok-eq0.field-0.0 Read c.from_residual.ensures.1 is))

pub returns-in_err-answer_end-in-Ok-eq0-clause-stopped : goal.returns-in_err-answer_end-in-Ok-eq0-clause-stopped
returns-in_err-answer_end-in-Ok-eq0-clause-stopped g c is =
    let run = c.reading.invariant.playing in
    let none : c.in-Ok-eq0.field-0 ≡ 0 = search rules in
    let all = end_given (c.args.script).course (waits_left c.args.reads.now) (waits_left c.read.new.self) c.answer_end.result c.reading.script c.answer_end.new.script.course _ _ _ _ _ _ _ _ none run c.in-Ok-eq0.ensures.bytes.0 (c.in-Ok-eq0.ensures.bytes.1 none (search rules)) c.answer_end.ensures in
    let stopped = subst (λ (r : Result (Unit {0}) ScriptError). AfterEnd (c.args.script).course (waits_left c.args.reads.now) (waits_left c.read.new.self) r c.answer_end.new.script.course (bytes_left g.R.Read.remaining c.args.reads.now) (bytes_left g.R.Read.remaining c.read.new.self) (g.W.Write.contents c.args.writer.now) (g.W.Write.contents c.answer_end.new.writer)) c.in_err-answer_end-in-Ok-eq0.was all in
    absurd (stopped.not_read (error_passed c.from_residual.result c.in_err-answer_end-in-Ok-eq0.field-0.0 Read c.from_residual.ensures.1 is))

pub returns-in_err-answer_end-in-Ok-eq0-clause-part : goal.returns-in_err-answer_end-in-Ok-eq0-clause-part
returns-in_err-answer_end-in-Ok-eq0-clause-part g c =
    let run = c.reading.invariant.playing in
    let none : c.in-Ok-eq0.field-0 ≡ 0 = search rules in
    let all = end_given (c.args.script).course (waits_left c.args.reads.now) (waits_left c.read.new.self) c.answer_end.result c.reading.script c.answer_end.new.script.course _ _ _ _ _ _ _ _ none run c.in-Ok-eq0.ensures.bytes.0 (c.in-Ok-eq0.ensures.bytes.1 none (search rules)) c.answer_end.ensures in
    let stopped = subst (λ (r : Result (Unit {0}) ScriptError). AfterEnd (c.args.script).course (waits_left c.args.reads.now) (waits_left c.read.new.self) r c.answer_end.new.script.course (bytes_left g.R.Read.remaining c.args.reads.now) (bytes_left g.R.Read.remaining c.read.new.self) (g.W.Write.contents c.args.writer.now) (g.W.Write.contents c.answer_end.new.writer)) c.in_err-answer_end-in-Ok-eq0.was all in
    stopped.in_part

pub returns-in-Err-clause-answered : goal.returns-in-Err-clause-answered
returns-in-Err-clause-answered g c is =
    played_so_far (c.args.script).course _ _ c.reading.script _ _ _ _ (playing_still (c.args.script).course c.reading.script _ _ _ _ _ c.reading.invariant.playing c.in-Err.ensures.bytes)

pub returns-in-Err-clause-stopped : goal.returns-in-Err-clause-stopped
returns-in-Err-clause-stopped g c is = an_error_stops c.reading.reads c.read.new.self c.read.result (ap is_err c.in-Err.is) c.read.ensures.counted c.read.ensures.failed

pub returns-in-Err-clause-part : goal.returns-in-Err-clause-part
returns-in-Err-clause-part g c =
    in_part_now (c.args.script).course _ _ c.reading.script _ _ _ _ (playing_still (c.args.script).course c.reading.script _ _ _ _ _ c.reading.invariant.playing c.in-Err.ensures.bytes)

pub reading-preserved : goal.reading-preserved
reading-preserved g c =
    let all = piece_given (c.args.script).course (waits_left c.args.reads.now) (waits_left c.read.new.self) c.give.result c.reading.script c.take-answered.new.self c.take-answered.result _ _ _ _ _ _ _ c.clear.new.self.items c.take-answered.new.output.items c.deref.result.now
    c.clear.ensures.items c.deref.ensures.value c.reading.invariant.playing c.in-Ok.ensures.bytes.0 c.take-answered.ensures.answered c.give.ensures in
    let given = subst (λ (r : Result (Unit {0}) ScriptError). Gives c.take-answered.result r c.deref.result.now (g.W.Write.contents c.reading.writer) (g.W.Write.contents c.give.new.writer)) c.in_ok-give.was c.give.ensures in
    let some : 0 < reads_left c.reading.reads = some_left (reads_left c.reading.reads) c.is_spent.result c.is_spent.ensures (search (rules, c.reading-test.true)) in
    record {
      playing = subst (λ (r : Result (Unit {0}) ScriptError). AfterPiece (c.args.script).course (waits_left c.args.reads.now) (waits_left c.read.new.self) r c.take-answered.new.self (bytes_left g.R.Read.remaining c.args.reads.now) (bytes_left g.R.Read.remaining c.read.new.self) (g.W.Write.contents c.args.writer.now) (g.W.Write.contents c.give.new.writer)) c.in_ok-give.was all;
      room = room_more (c.reading.script).count c.take-answered.new.self.count _ c.in-Ok.count (reads_left c.reading.reads) (reads_left c.read.new.self) _ c.reading.invariant.room
          (given_counted _ c.take-answered.result _ _ _ _ given c.take-answered.ensures.counted) (grind (arith, common_steps)) c.in-Ok.ensures.short c.in-Ok.ensures.counted some;
    }

pub returns-in_err-give-clause-bad_line : goal.returns-in_err-give-clause-bad_line
returns-in_err-give-clause-bad_line g c n is =
    let all = piece_given (c.args.script).course (waits_left c.args.reads.now) (waits_left c.read.new.self) c.give.result c.reading.script c.take-answered.new.self c.take-answered.result _ _ _ _ _ _ _ c.clear.new.self.items c.take-answered.new.output.items c.deref.result.now
    c.clear.ensures.items c.deref.ensures.value c.reading.invariant.playing c.in-Ok.ensures.bytes.0 c.take-answered.ensures.answered c.give.ensures in
    let stopped = subst (λ (r : Result (Unit {0}) ScriptError). AfterPiece (c.args.script).course (waits_left c.args.reads.now) (waits_left c.read.new.self) r c.take-answered.new.self (bytes_left g.R.Read.remaining c.args.reads.now) (bytes_left g.R.Read.remaining c.read.new.self) (g.W.Write.contents c.args.writer.now) (g.W.Write.contents c.give.new.writer)) c.in_err-give.was all in
    stopped.bad_line n (error_passed c.from_residual-in_err-give.result c.in_err-give.field-0.0 (BadLine n) c.from_residual-in_err-give.ensures.1 is)

pub returns-in_err-give-clause-answered : goal.returns-in_err-give-clause-answered
returns-in_err-give-clause-answered g c is =
    let all = piece_given (c.args.script).course (waits_left c.args.reads.now) (waits_left c.read.new.self) c.give.result c.reading.script c.take-answered.new.self c.take-answered.result _ _ _ _ _ _ _ c.clear.new.self.items c.take-answered.new.output.items c.deref.result.now
    c.clear.ensures.items c.deref.ensures.value c.reading.invariant.playing c.in-Ok.ensures.bytes.0 c.take-answered.ensures.answered c.give.ensures in
    let stopped = subst (λ (r : Result (Unit {0}) ScriptError). AfterPiece (c.args.script).course (waits_left c.args.reads.now) (waits_left c.read.new.self) r c.take-answered.new.self (bytes_left g.R.Read.remaining c.args.reads.now) (bytes_left g.R.Read.remaining c.read.new.self) (g.W.Write.contents c.args.writer.now) (g.W.Write.contents c.give.new.writer)) c.in_err-give.was all in
    absurd (stopped.not_read (error_passed c.from_residual-in_err-give.result c.in_err-give.field-0.0 Read c.from_residual-in_err-give.ensures.1 is))

pub returns-in_err-give-clause-part : goal.returns-in_err-give-clause-part
returns-in_err-give-clause-part g c =
    let all = piece_given (c.args.script).course (waits_left c.args.reads.now) (waits_left c.read.new.self) c.give.result c.reading.script c.take-answered.new.self c.take-answered.result _ _ _ _ _ _ _ c.clear.new.self.items c.take-answered.new.output.items c.deref.result.now
    c.clear.ensures.items c.deref.ensures.value c.reading.invariant.playing c.in-Ok.ensures.bytes.0 c.take-answered.ensures.answered c.give.ensures in
    let stopped = subst (λ (r : Result (Unit {0}) ScriptError). AfterPiece (c.args.script).course (waits_left c.args.reads.now) (waits_left c.read.new.self) r c.take-answered.new.self (bytes_left g.R.Read.remaining c.args.reads.now) (bytes_left g.R.Read.remaining c.read.new.self) (g.W.Write.contents c.args.writer.now) (g.W.Write.contents c.give.new.writer)) c.in_err-give.was all in
    stopped.in_part

pub returns-clause-answered : goal.returns-clause-answered
returns-clause-answered g c is = played_so_far (c.args.script).course _ _ c.reading.script _ _ _ _ c.reading.invariant.playing

pub returns-clause-part : goal.returns-clause-part
returns-clause-part g c = in_part_now (c.args.script).course _ _ c.reading.script _ _ _ _ c.reading.invariant.playing
