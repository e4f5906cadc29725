use Rattle.std.proofs.Common.{◌≤◌, ◌-◌, length, ap, arith}
use Rattle.gu_engine.proofs.Intakes.{length_with_frame, length_without_frame}
use Rattle.gu_engine.proofs.counted_intake.CountedIntake.next_frame.Goals as goal

pub overflow_sub-self : goal.overflow_sub-self
overflow_sub-self c =
    let first = rw c.in-Some.is at c.in_ok-next.ensures.first in
    let fits = length_with_frame c.self.inside.intake c.in-Some.frame c.next_frame.new.self first in
    let most : length c.self.inside.intake ≤ c.self.inside.most = c.self.invariant in
    omega (arith, ap length c.bytes.ensures.value)

pub invariant_of-self-in-Some : goal.invariant_of-self-in-Some
invariant_of-self-in-Some c =
    let first = rw c.in-Some.is at c.in_ok-next.ensures.first in
    let fits = length_with_frame c.self.inside.intake c.in-Some.frame c.next_frame.new.self first in
    let most : length c.self.inside.intake ≤ c.self.inside.most = c.self.invariant in
    let kept : length c.next_frame.new.self ≤ c.self.inside.most - length c.bytes.result.now = omega (arith, ap length c.bytes.ensures.value) in
    kept

pub invariant_of-self-in-None : goal.invariant_of-self-in-None
invariant_of-self-in-None c =
    let is_open = rw c.in-None.is at c.in_ok-next.ensures.stays_open in
    let leads = rw c.in-None.is at c.in_ok-next.ensures.leads_on in
    let fits = length_without_frame c.self.inside.intake c.next_frame.new.self is_open leads in
    let most : length c.self.inside.intake ≤ c.self.inside.most = c.self.invariant in
    let kept : length c.next_frame.new.self ≤ c.self.inside.most = omega arith in
    kept
