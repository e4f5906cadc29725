use Rattle.std.proofs.Common.{◌≡◌, ℕ, suc, ◌-◌, List, length, take, get_or, ap, ◌∙◌, arith}
use Rattle.gu_fix.specs.Sums.{sum_after}
use Rattle.gu_fix.proofs.SumLemmas.{length-running, running-at}
use Rattle.gu_fix.proofs.window.sum_before.Goals as goal

pub returns-else-place-eq0 : goal.returns-else-place-eq0
returns-else-place-eq0 c bytes e =
    let place = c.args.place in
    let last : suc (place - 1) ≡ place = omega (arith, c.if-place-eq0.false) in
    let count : length c.args.sums.now ≡ length bytes = ap length e ∙ length-running 0 bytes in
    ap (λ (t : List ℕ). get_or t (place - 1) 0) e ∙ running-at 0 (place - 1) bytes (omega (arith, c.if-place-eq0.false)) ∙ ap (λ n. sum_after 0 (take n bytes)) last
