use Rattle.std.proofs.Common.{◌≡◌, ◌<◌, ◌+◌, ◌-◌, ◌∙◌, ℕ, length, take, sym, ap, arith}
use Rattle.gu_journal.specs.Text.{used_length}
use Rattle.gu_journal.proofs.Scans.{used_here, used_not_here}
use Rattle.gu_journal.proofs.scanning.used_len.Goals as goal

pub returns-then-bytes-used-ne0 : goal.returns-then-bytes-used-ne0
returns-then-bytes-used-ne0 c =
    let bytes = c.args.bytes.now in
    let used = c.bytes.used in
    let here : used - 1 < length bytes = omega (arith, c.bytes-test.true, c.bytes.invariant.within) in
    let again : used - 1 + 1 ≡ used = omega (arith, c.bytes-test.true) in
    sym again
    ∙ used_here bytes (used - 1) here c.if-bytes-used-ne0.true
    ∙ ap (λ (n : ℕ). used_length (take n bytes)) again
    ∙ sym c.bytes.invariant.used

pub bytes-preserved : goal.bytes-preserved
bytes-preserved c =
    let bytes = c.args.bytes.now in
    let used = c.bytes.used in
    let here : used - 1 < length bytes = omega (arith, c.bytes-test.true, c.bytes.invariant.within) in
    let again : used - 1 + 1 ≡ used = omega (arith, c.bytes-test.true) in
    record {
      within = omega (arith, c.bytes.invariant.within);
      used =
          c.bytes.invariant.used
          ∙ ap (λ (n : ℕ). used_length (take n bytes)) (sym again)
          ∙ used_not_here bytes (used - 1) here c.if-bytes-used-ne0.false;
    }
