use Rattle.gu_limits.proofs.Words.{◌∙◌, ◌+◌, ◌-◌, sym, ap, subst, arith, take_all, Returns, limits_after_return}
use Rattle.gu_limits.proofs.Bookings.{after-none, returned}
use Rattle.gu_limits.proofs.LimitPlaces.{return-fits, return-known, return-none, return-one}
use Rattle.gu_limits.proofs.table.LimitTable.give_back_at.Goals as goal
use Rattle.gu_limits.proofs.table.LimitTable.give_back_at.Goals.{else-number-gt0, then-number-gt0}

pub loop-number-init : goal.loop-number-init
loop-number-init c group keys may = sym (after-none (λ u a. u - a) (λ u. omega arith) (λ u a b. omega arith) c.args.lots group c.args.self.now)

pub return_to_limit-requires-clause-known : goal.return_to_limit-requires-clause-known
return_to_limit-requires-clause-known c =
    return-known c.args.self.now c.requires.0 c.requires.1 c.args.lots c.args.limits.now c.loop-number.number-index (omega (arith, c.loop-number-test.true, c.type_inv.number-items)) c.loop-number.self c.requires.2
    (c.loop-number.invariant c.requires.0 c.requires.1 c.requires.2) c.if-number-gt0.true

pub return_to_limit-requires-clause-used : goal.return_to_limit-requires-clause-used
return_to_limit-requires-clause-used c =
    return-fits c.args.self.now c.requires.0 c.requires.1 c.args.lots c.args.limits.now c.loop-number.number-index (omega (arith, c.loop-number-test.true, c.type_inv.number-items)) c.loop-number.self c.requires.2
    (c.loop-number.invariant c.requires.0 c.requires.1 c.requires.2) c.if-number-gt0.true

pub loop-number-preserved : goal.loop-number-preserved
loop-number-preserved c group keys may =
    let so_far = c.loop-number.invariant group keys may in
    elim c.if-number-gt0.branch [
      | then-number-gt0 w ↦
          w.self-is
          ∙ return-one c.args.self.now group keys c.args.lots c.args.limits.now c.loop-number.number-index (omega (arith, c.loop-number-test.true, c.type_inv.number-items)) c.loop-number.self may so_far
          w.if-number-gt0.true w.return_to_limit.new.self w.return_to_limit.ensures
      | else-number-gt0 w ↦
          w.self-is
          ∙ return-none c.args.self.now group keys c.args.lots c.args.limits.now c.loop-number.number-index (omega (arith, c.loop-number-test.true, c.type_inv.number-items)) c.loop-number.self may so_far
          (omega (arith, w.if-number-gt0.false))
    ]

pub returns : goal.returns
returns c group keys may =
    let all = c.loop-number.invariant group keys may ∙ ap (λ ks. limits_after_return c.args.self.now group ks c.args.lots) (take_all c.loop-number.number-index keys (omega (arith, may.under.few, c.loop-number-test.false))) in
    subst (λ new. Returns c.args.self.now new group keys c.args.lots) (sym all) (returned c.args.self.now group c.args.lots keys may.used)
