use Rattle.gu_notices.proofs.Words.{◌≡◌, ◌∙◌, ◌+◌, ◌-◌, ◌++◌, ℕ, suc, ap, arith, subst, flat_map, range_with_len, told_of_line, Holds}
use Rattle.gu_notices.proofs.NoticeLemmas.{flat_map-range}
use Rattle.gu_notices.proofs.RecipientLemmas.{holds-append, holds-more}
use Rattle.gu_notices.proofs.firm_filter.FirmFilter.add_lines.Goals as goal

pub loop-number-init : goal.loop-number-init
loop-number-init c =
    let none : c.get-from.result - c.get-from.result ≡ 0 = omega arith in
    record { added = λ later grows. rw none tt; kept = λ firm held. held }

pub loop-number-preserved : goal.loop-number-preserved
loop-number-preserved c =
    let first = c.get-from.result in
    let n = c.loop-number.number - first in
    let here : c.loop-number.number ≡ first + n = omega (arith, c.loop-number.auto.number) in
    let next : suc n ≡ c.loop-number.number + 1 - first = omega (arith, c.loop-number.auto.number) in
    record {
      added = λ later grows.
          let tell = told_of_line later in
          let before = flat_map tell (range_with_len first n) in
          subst (Holds c.add_line.new.self)
          (ap (λ (k : ℕ). before ++ tell k) here ∙ flat_map-range tell first n ∙ ap (λ (k : ℕ). flat_map tell (range_with_len first k)) next)
          (holds-append c.add_line.new.self before (tell c.loop-number.number)
          (holds-more c.loop-number.self c.add_line.new.self c.add_line.ensures.kept before (c.loop-number.invariant.added later grows)) (c.add_line.ensures.added later grows));
      kept = λ firm held. c.add_line.ensures.kept firm (c.loop-number.invariant.kept firm held);
    }
