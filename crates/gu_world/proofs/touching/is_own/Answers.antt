use Rattle.std.proofs.Common.{◌≡◌, ◌-◌, false, suc, arith}
use Rattle.gu_world.proofs.BlameLemmas.{own-is}
use Rattle.gu_world.proofs.touching.is_own.Goals as goal

pub returns-in-Some : goal.returns-in-Some
returns-in-Some c = λ before known.
    let place : c.args.offer ≡ suc (c.get.result - 1) = omega (arith, c.get.ensures.number, c.get.ensures.sound) in
    own-is before c.args.group.now c.args.own.now (c.get.result - 1) c.args.offer c.in-Some.own.now known place (c.in-Some.ensures.lookup.4 (omega arith) false)

pub returns-in-None : goal.returns-in-None
returns-in-None c = λ before known.
    let place : c.args.offer ≡ suc (c.get.result - 1) = omega (arith, c.get.ensures.number, c.get.ensures.sound) in
    own-is before c.args.group.now c.args.own.now (c.get.result - 1) c.args.offer false known place (c.in-None.ensures.lookup.4 (omega arith) false)
