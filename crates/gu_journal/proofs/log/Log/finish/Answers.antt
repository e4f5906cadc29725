use Rattle.std.proofs.Common.{sym, subst}
use Rattle.gu_journal.specs.Crashes.{LeavesOnly}
use Rattle.gu_journal.specs.Device.{Cuts}
use Rattle.gu_journal.specs.Kept.{device_of, kept_by}
use Rattle.gu_journal.specs.Log.{Finds}
use Rattle.gu_journal.proofs.Moments.{weaker}
use Rattle.gu_journal.proofs.Settled.{finds_cut}
use Rattle.gu_journal.proofs.log.Log.finish.Goals as goal

pub returns-in-Ok-clause-any_moment : goal.returns-in-Ok-clause-any_moment
returns-in-Ok-clause-any_moment g c honest =
    let log = c.args.self in
    let s = log.settled (c.cut_through.ensures.before honest) in
    weaker g.D.Device.moment g.D.Device.left_since _ _ (Cuts log.at (g.D.Device.seen log.device)) _
    (c.cut_through.ensures.any_moment honest s.durable) (finds_cut _ _ log.at log.len s)

pub returns-in-Err-clause-any_moment_stopped : goal.returns-in-Err-clause-any_moment_stopped
returns-in-Err-clause-any_moment_stopped g c =
    let log = c.args.self in
    subst
    (λ (d : g.row.D.Denot). g.D.Device.is_honest d → LeavesOnly g.D.Device.moment g.D.Device.left_since (device_of log) d (Finds (kept_by log)))
    (sym c.new.ensures.place)
    (λ honest.
    let s = log.settled (c.cut_through.ensures.before honest) in
    weaker g.D.Device.moment g.D.Device.left_since _ _ (Cuts log.at (g.D.Device.seen log.device)) _
    (c.cut_through.ensures.any_moment honest s.durable) (finds_cut _ _ log.at log.len s))
