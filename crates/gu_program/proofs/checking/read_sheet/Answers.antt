use Rattle.std.proofs.Common.{◌≡◌, ◌<◌, Err, ap, rules, arith, subst}
use Rattle.std.proofs.lemmas.Grind.{common_steps}
use Rattle.gu_streams.specs.Reads.{reads_left}
use Rattle.gu_streams.proofs.Writing.{on_err_from}
use Rattle.gu_text.specs.Sheets.{Refuses}
use Rattle.gu_program.proofs.Checkings.{ended_bad, ended_sheet, reading_bad, reading_more, reading_part, room_more, some_left, text_passed}
use Rattle.gu_program.proofs.checking.read_sheet.Goals as goal

pub returns-in-Ok-eq0-clause-sheet : goal.returns-in-Ok-eq0-clause-sheet
returns-in-Ok-eq0-clause-sheet g c =
    let none : c.in-Ok-eq0.field-0 ≡ 0 = search rules in
    ended_sheet c.reading.reading _ _ _ c.in-Ok-eq0.field-0 _ c.in_ok-end-in-Ok-eq0.field-0 none c.reading.invariant.so_far c.in-Ok-eq0.ensures.bytes.0
    (c.in-Ok-eq0.ensures.bytes.1 none (search rules)) c.in_ok-end-in-Ok-eq0.ensures.sheet

pub returns-in_err-end-in-Ok-eq0-clause-bad_line : goal.returns-in_err-end-in-Ok-eq0-clause-bad_line
returns-in_err-end-in-Ok-eq0-clause-bad_line g c n is =
    let none : c.in-Ok-eq0.field-0 ≡ 0 = search rules in
    let error = text_passed c.from_residual.result c.in_err-end-in-Ok-eq0.field-0.0 n c.from_residual.ensures.1 is in
    ended_bad c.reading.reading _ _ _ c.in-Ok-eq0.field-0 _ n none c.reading.invariant.so_far c.in-Ok-eq0.ensures.bytes.0
    (c.in-Ok-eq0.ensures.bytes.1 none (search rules)) (λ text so_far. subst (Refuses text) error (c.in_err-end-in-Ok-eq0.ensures.refused text so_far))

pub returns-in_err-take-in-Ok-clause-bad_line : goal.returns-in_err-take-in-Ok-clause-bad_line
returns-in_err-take-in-Ok-clause-bad_line g c n is =
    let error = text_passed c.from_residual-in_err-take-in-Ok.result c.in_err-take-in-Ok.field-0.0 n c.from_residual-in_err-take-in-Ok.ensures.1 is in
    reading_bad c.reading.reading _ _ _ _ n c.reading.invariant.so_far c.in-Ok.ensures.bytes.0 (c.in_err-take-in-Ok.ensures.bad n (ap Err error))

pub returns-in_err-take-in-Ok-clause-part : goal.returns-in_err-take-in-Ok-clause-part
returns-in_err-take-in-Ok-clause-part g c =
    on_err_from c.from_residual-in_err-take-in-Ok.result (reading_part c.reading.reading _ _ _ _ c.reading.invariant.so_far c.in-Ok.ensures.bytes.0)

pub reading-preserved : goal.reading-preserved
reading-preserved g c =
    let some : 0 < reads_left c.reading.reads = some_left (reads_left c.reading.reads) c.is_spent.result c.is_spent.ensures (search (rules, c.reading-test.true)) in
    record {
      so_far = reading_more c.reading.reading c.take.new.self _ _ _ _ c.reading.invariant.so_far c.in-Ok.ensures.bytes.0 c.in_ok-take-in-Ok.ensures.read;
      room = room_more (c.reading.reading).count (c.take.new.self).count _ c.in-Ok.count (reads_left c.reading.reads) (reads_left c.read.new.self) _ c.reading.invariant.room
          c.in_ok-take-in-Ok.ensures.counted (grind (arith, common_steps)) c.in-Ok.ensures.short c.in-Ok.ensures.counted some;
    }
