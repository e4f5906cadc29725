use Rattle.std.proofs.Common.{◌≡◌, ◌<◌, ◌+◌, ◌-◌, ◌∙◌, ℕ, length, take, sym, ap, arith}
use Rattle.gu_journal.specs.Text.{whole_lines}
use Rattle.gu_journal.proofs.Scans.{line_ended, no_line_here}
use Rattle.gu_journal.proofs.scanning.lines_end.Goals as goal

pub returns-then-text-end-eq10-clause-lines : goal.returns-then-text-end-eq10-clause-lines
returns-then-text-end-eq10-clause-lines c =
    let text = c.args.text.now in
    let end = c.bytes.end in
    let here : end - 1 < length text = omega (arith, c.bytes-test.true, c.bytes.invariant.within) in
    let again : end - 1 + 1 ≡ end = omega (arith, c.bytes-test.true) in
    line_ended text end (end - 1) here c.if-text-end-eq10.true (sym again)
    ∙ ap (λ (n : ℕ). whole_lines (take n text)) again
    ∙ sym c.bytes.invariant.lines

pub bytes-preserved : goal.bytes-preserved
bytes-preserved c =
    let text = c.args.text.now in
    let end = c.bytes.end in
    let here : end - 1 < length text = omega (arith, c.bytes-test.true, c.bytes.invariant.within) in
    let again : end - 1 + 1 ≡ end = omega (arith, c.bytes-test.true) in
    record {
      within = omega (arith, c.bytes.invariant.within);
      lines =
          c.bytes.invariant.lines
          ∙ ap (λ (n : ℕ). whole_lines (take n text)) (sym again)
          ∙ no_line_here text (end - 1) here c.if-text-end-eq10.false;
    }
