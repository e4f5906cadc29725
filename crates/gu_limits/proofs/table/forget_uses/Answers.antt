use Rattle.std.proofs.Common.{◌≡◌, ◌∙◌, sym, ap, length, arith, add-one}
use Rattle.gu_limits.proofs.KeptLimits.{length-unused_before, unused-all, unused-more, unused-none, unused_before}
use Rattle.gu_limits.proofs.table.forget_uses.Goals as goal

pub loop-place-init : goal.loop-place-init
loop-place-init c = sym (unused-none c.args.limits.now.entries)

pub index_mut-kept-requires : goal.index_mut-kept-requires
index_mut-kept-requires c =
    let long : length c.loop-place.limits.entries ≡ length c.args.limits.now.entries = ap length c.loop-place.invariant ∙ length-unused_before c.loop-place.place c.args.limits.now.entries in
    let all = c.len-place-end.ensures.len in
    omega arith

pub loop-place-preserved : goal.loop-place-preserved
loop-place-preserved c =
    rw (add-one, c.loop-place.invariant)
    (unused-more c.loop-place.place c.args.limits.now.entries c.index_mut-kept.result.now (rw c.loop-place.invariant at c.index_mut-kept.ensures.value))

pub returns : goal.returns
returns c =
    let all = c.len-place-end.ensures.len in
    let end : c.loop-place.place ≡ length c.args.limits.now.entries = omega arith in
    c.loop-place.invariant ∙ ap (λ place. unused_before place c.args.limits.now.entries) end ∙ unused-all c.args.limits.now.entries
