use Rattle.std.proofs.Common.{◌≡◌, ◌+◌, ◌-◌, ◌∙◌, arith, subst, sym, w64}
use Rattle.std.specs.Int.{trailing_zeros}
use Rattle.gu_fix.specs.Spans.{EndsPart}
use Rattle.gu_fix.proofs.Ends.{first_marked, later_marked, none_further, none_marked}
use Rattle.gu_fix.proofs.splitting.part_len.Goals as goal

pub returns-then-marks-ne0 : goal.returns-then-marks-ne0
returns-then-marks-ne0 c = first_marked c.args.bytes.now c.args.start _ c.requires.1 c.next_marks-marks.ensures (omega arith) (omega arith)

pub stretches-init : goal.stretches-init
stretches-init c =
    let none = none_marked c.args.bytes.now c.args.start (sym c.next_marks-marks.ensures ∙ omega (arith, c.if-marks-ne0.false)) in
    record { low = omega arith; within = c.requires.1; none = none }

pub returns-then-marks-ne0-2 : goal.returns-then-marks-ne0-2
returns-then-marks-ne0-2 c =
    let bytes = c.args.bytes.now in
    let start = c.args.start in
    let place = c.stretches.place + 16 in
    let marks = c.next_marks-marks-in-stretches in
    let inv = c.stretches.invariant in
    let ends = later_marked bytes start place _ inv.none (omega (arith, inv.low)) (omega (arith, c.stretches-test.true)) marks.ensures (omega (arith, c.if-marks-ne0-2.true)) (omega arith) in
    let same : place + trailing_zeros w64 marks.result ≡ start + (place - start + trailing_zeros w64 marks.result) = omega (arith, inv.low) in
    subst (EndsPart bytes start) same ends

pub stretches-preserved : goal.stretches-preserved
stretches-preserved c =
    let inv = c.stretches.invariant in
    record {
      low = omega (arith, inv.low);
      within = omega (arith, c.stretches-test.true);
      none = none_further c.args.bytes.now c.args.start (c.stretches.place + 16) inv.none (sym c.next_marks-marks-in-stretches.ensures ∙ omega (arith, c.if-marks-ne0-2.false));
    }
