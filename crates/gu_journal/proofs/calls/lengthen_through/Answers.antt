use Rattle.gu_journal.specs.Device.{Lengthens}
use Rattle.gu_journal.proofs.Steps.{lengthens_none, stepped, stepped_synced}
use Rattle.gu_journal.proofs.calls.lengthen_through.Goals as goal

pub returns-in_err-lengthen-clause-any_moment : goal.returns-in_err-lengthen-clause-any_moment
returns-in_err-lengthen-clause-any_moment g c honest only =
    stepped g.D.Device.moment g.D.Device.left_since g.D.Device.may_leave c.args.device.now c.lengthen.new.self _ (Lengthens c.args.more) only
    (g.met.D.Device.only_now c.args.device.now) (lengthens_none c.args.more _) (c.lengthen.ensures.time honest) (c.lengthen.ensures.crash honest)

pub returns-clause-any_moment : goal.returns-clause-any_moment
returns-clause-any_moment g c honest only =
    let mid = c.sync.ensures.before honest in
    stepped_synced g.D.Device.moment g.D.Device.left_since g.D.Device.may_leave c.args.device.now c.lengthen.new.self c.sync.new.self _ (Lengthens c.args.more) only
    (g.met.D.Device.only_now c.args.device.now) (lengthens_none c.args.more _) (c.lengthen.ensures.time mid) (c.lengthen.ensures.crash mid)
    (c.sync.ensures.time honest) (c.sync.ensures.crash honest)
