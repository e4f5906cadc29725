use Rattle.gu_notices.proofs.Words.{◌≡◌, ◌∙◌, ◌+◌, ◌-◌, ◌++◌, ℕ, suc, ap, arith, subst, flat_map, range_with_len, told_of_line, register_in}
use Rattle.gu_notices.proofs.NoticeLemmas.{IsToldSoFar, flat_map-range, told-then}
use Rattle.gu_notices.proofs.mailbox.Mailbox.tell_lines.Goals as goal

pub loop-number-preserved : goal.loop-number-preserved
loop-number-preserved c =
    let tell = told_of_line (register_in c.args.register.now) in
    let first = c.get-from.result in
    let n = c.loop-number.number - first in
    let here : c.loop-number.number ≡ first + n = omega (arith, c.loop-number.auto.number) in
    let next : suc n ≡ c.loop-number.number + 1 - first = omega (arith, c.loop-number.auto.number) in
    let before = flat_map tell (range_with_len first n) in
    let step : IsToldSoFar c.loop-number.self c.tell_line.new.self (tell c.loop-number.number) = record { firm = c.in_ok-tell_line.ensures.firm; list = c.in_ok-tell_line.ensures.list } in
    let told = told-then c.args.self.now c.loop-number.self c.tell_line.new.self _ before (tell c.loop-number.number) c.loop-number.invariant step in
    subst (IsToldSoFar c.args.self.now c.tell_line.new.self)
    (ap (λ (k : ℕ). before ++ tell k) here ∙ flat_map-range tell first n ∙ ap (λ (k : ℕ). flat_map tell (range_with_len first k)) next) told
