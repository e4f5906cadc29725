use Rattle.gu_journal.specs.Device.{Cuts}
use Rattle.gu_journal.proofs.Steps.{cuts_none, stepped, stepped_synced}
use Rattle.gu_journal.proofs.calls.cut_through.Goals as goal

pub returns-in_err-cut-clause-any_moment : goal.returns-in_err-cut-clause-any_moment
returns-in_err-cut-clause-any_moment g c honest only =
    stepped g.D.Device.moment g.D.Device.left_since g.D.Device.may_leave c.args.device.now c.cut.new.self _ (Cuts c.args.len) only
    (g.met.D.Device.only_now c.args.device.now) (cuts_none c.args.len _) (c.cut.ensures.time honest) (c.cut.ensures.crash honest)

pub returns-clause-any_moment : goal.returns-clause-any_moment
returns-clause-any_moment g c honest only =
    let mid = c.sync.ensures.before honest in
    stepped_synced g.D.Device.moment g.D.Device.left_since g.D.Device.may_leave c.args.device.now c.cut.new.self c.sync.new.self _ (Cuts c.args.len) only
    (g.met.D.Device.only_now c.args.device.now) (cuts_none c.args.len _) (c.cut.ensures.time mid) (c.cut.ensures.crash mid)
    (c.sync.ensures.time honest) (c.sync.ensures.crash honest)
