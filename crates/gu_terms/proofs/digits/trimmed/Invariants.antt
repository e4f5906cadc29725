use Rattle.std.proofs.Common.{◌≡◌, ◌≤◌, take, length}
use Rattle.gu_terms.specs.WrittenNumbers.{trimmed_digits}
use Rattle.gu_terms.proofs.digits.trimmed.Given as goal

abbrev pub invariant-loop-end : goal.invariant-loop-end
invariant-loop-end l = record {
  within : l.end ≤ length l.digits;
  same : trimmed_digits l.digits ≡ trimmed_digits (take l.end l.digits);
}

abbrev pub decreases-loop-end : goal.decreases-loop-end
decreases-loop-end l = l.end
