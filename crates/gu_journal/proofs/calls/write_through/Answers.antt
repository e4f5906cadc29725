use Rattle.std.proofs.Common.{ap, length, arith}
use Rattle.gu_journal.specs.Device.{Mixes}
use Rattle.gu_journal.proofs.Steps.{mixes_none, stepped, stepped_synced}
use Rattle.gu_journal.proofs.calls.write_through.Goals as goal

pub returns-in_err-write_at-clause-any_moment : goal.returns-in_err-write_at-clause-any_moment
returns-in_err-write_at-clause-any_moment g c honest =
    let was = c.write_at.ensures.before honest in
    stepped g.D.Device.moment g.D.Device.left_since g.D.Device.may_leave c.args.device.now c.write_at.new.self _ (Mixes c.args.at c.args.bytes.now) (c.requires.synced was)
    (g.met.D.Device.only_now c.args.device.now) (mixes_none c.args.at c.args.bytes.now _ (c.requires.within was)) (c.write_at.ensures.time honest) (c.write_at.ensures.crash honest)

pub returns-clause-any_moment : goal.returns-clause-any_moment
returns-clause-any_moment g c honest =
    let mid = c.sync.ensures.before honest in
    let was = c.write_at.ensures.before mid in
    stepped_synced g.D.Device.moment g.D.Device.left_since g.D.Device.may_leave c.args.device.now c.write_at.new.self c.sync.new.self _ (Mixes c.args.at c.args.bytes.now) (c.requires.synced was)
    (g.met.D.Device.only_now c.args.device.now) (mixes_none c.args.at c.args.bytes.now _ (c.requires.within was)) (c.write_at.ensures.time mid) (c.write_at.ensures.crash mid)
    (c.sync.ensures.time honest) (c.sync.ensures.crash honest)

pub write_at-requires-clause-within_left : goal.write_at-requires-clause-within_left
write_at-requires-clause-within_left g c honest f left = omega (arith, ap length (c.requires.synced honest f left), c.requires.within honest)
