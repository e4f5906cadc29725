use Rattle.std.proofs.Common.{sym, subst, arith}
use Rattle.gu_journal.specs.Crashes.{LeavesOnly}
use Rattle.gu_journal.specs.Device.{Lengthens}
use Rattle.gu_journal.specs.Kept.{kept_by}
use Rattle.gu_journal.specs.Log.{Finds}
use Rattle.gu_journal.proofs.Moments.{started, weaker}
use Rattle.gu_journal.proofs.Settled.{finds_longer, longer_kept, longer_settled}
use Rattle.gu_journal.proofs.log.Log.with_room.Goals as goal

pub returns-then-self-more-clause-any_moment : goal.returns-then-self-more-clause-any_moment
returns-then-self-more-clause-any_moment g c honest =
    let log = c.args.self in
    let s = log.settled honest in
    started g.D.Device.moment g.D.Device.left_since log.device (Finds (kept_by log))
    (λ f left. subst (Finds (kept_by log)) (sym (s.durable f (g.met.D.Device.only_now log.device f left))) s.finds)

pub returns-in_default-clause-any_moment_stopped : goal.returns-in_default-clause-any_moment_stopped
returns-in_default-clause-any_moment_stopped g c =
    let log = c.args.self in
    subst
    (λ (d : g.row.D.Denot). g.D.Device.is_honest d → LeavesOnly g.D.Device.moment g.D.Device.left_since log.device d (Finds (kept_by log)))
    (sym c.new.ensures.place)
    (λ honest.
    let s = log.settled honest in
    started g.D.Device.moment g.D.Device.left_since log.device (Finds (kept_by log))
    (λ f left. subst (Finds (kept_by log)) (sym (s.durable f (g.met.D.Device.only_now log.device f left))) s.finds))

pub invariant_of-result : goal.invariant_of-result
invariant_of-result g c = record {
  within = omega arith;
  short = c.args.self.short;
  settled = λ honest.
      let log = c.args.self in
      let s = log.settled (c.lengthen_through.ensures.before honest) in
      longer_settled _ _ log.at log.len s _ _ c.max-added.result c.in-Some.longer log.within (omega arith) (c.in-Ok.ensures.lengthened honest) (c.in-Ok.ensures.durable honest);
}

pub returns-in-Ok-clause-kept : goal.returns-in-Ok-clause-kept
returns-in-Ok-clause-kept g c honest =
    let log = c.args.self in
    let s = log.settled (c.lengthen_through.ensures.before honest) in
    longer_kept _ _ log.at log.len s _ c.max-added.result (c.in-Ok.ensures.lengthened honest)

pub returns-in-Ok-clause-any_moment : goal.returns-in-Ok-clause-any_moment
returns-in-Ok-clause-any_moment g c honest =
    let log = c.args.self in
    let s = log.settled (c.lengthen_through.ensures.before honest) in
    weaker g.D.Device.moment g.D.Device.left_since _ _ (Lengthens c.max-added.result (g.D.Device.seen log.device)) _
    (c.lengthen_through.ensures.any_moment honest s.durable) (finds_longer _ _ log.at log.len s c.max-added.result)

pub returns-in-Err-clause-any_moment_stopped : goal.returns-in-Err-clause-any_moment_stopped
returns-in-Err-clause-any_moment_stopped g c =
    let log = c.args.self in
    subst
    (λ (d : g.row.D.Denot). g.D.Device.is_honest d → LeavesOnly g.D.Device.moment g.D.Device.left_since log.device d (Finds (kept_by log)))
    (sym c.new-in-Err.ensures.place)
    (λ honest.
    let s = log.settled (c.lengthen_through.ensures.before honest) in
    weaker g.D.Device.moment g.D.Device.left_since _ _ (Lengthens c.max-added.result (g.D.Device.seen log.device)) _
    (c.lengthen_through.ensures.any_moment honest s.durable) (finds_longer _ _ log.at log.len s c.max-added.result))
