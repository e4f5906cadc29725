use Rattle.std.proofs.Common.{List, ℕ, sym, subst}
use Rattle.gu_journal.specs.Crashes.{LeavesOnly}
use Rattle.gu_journal.specs.Device.{Mixes}
use Rattle.gu_journal.specs.Kept.{kept_by}
use Rattle.gu_journal.specs.Sink.{HasBegun}
use Rattle.gu_journal.specs.Text.{found}
use Rattle.gu_journal.proofs.Moments.{weaker}
use Rattle.gu_journal.proofs.Settled.{finds_begun, put_kept, put_settled}
use Rattle.gu_journal.proofs.log.Log.put.Goals as goal

pub invariant_of-result : goal.invariant_of-result
invariant_of-result g c = record {
  within = c.requires.room;
  short = c.args.self.short;
  settled = λ honest.
      let log = c.args.self in
      let s = log.settled (c.write_through.ensures.before honest) in
      put_settled _ _ log.at log.len s c.args.batch.now c.requires.batch.no_zero c.requires.batch.lines c.requires.room _ _
      (c.in-Ok.ensures.written honest) (c.in-Ok.ensures.durable honest);
}

pub returns-in-Ok-clause-kept : goal.returns-in-Ok-clause-kept
returns-in-Ok-clause-kept g c honest =
    let log = c.args.self in
    let s = log.settled (c.write_through.ensures.before honest) in
    put_kept _ _ log.at log.len s c.args.batch.now c.requires.batch.no_zero c.requires.batch.lines c.requires.room _ (c.in-Ok.ensures.written honest)

pub returns-in-Ok-clause-any_moment : goal.returns-in-Ok-clause-any_moment
returns-in-Ok-clause-any_moment g c honest =
    let log = c.args.self in
    let s = log.settled (c.write_through.ensures.before honest) in
    weaker g.D.Device.moment g.D.Device.left_since _ _ (Mixes log.at c.args.batch.now (g.D.Device.seen log.device)) _
    (c.write_through.ensures.any_moment honest)
    (finds_begun _ _ log.at log.len s c.args.batch.now c.requires.batch.no_zero c.requires.batch.lines c.requires.room c.requires.batch.short)

pub returns-in-Err-clause-any_moment_stopped : goal.returns-in-Err-clause-any_moment_stopped
returns-in-Err-clause-any_moment_stopped g c =
    let log = c.args.self in
    subst
    (λ (d : g.row.D.Denot). g.D.Device.is_honest d → LeavesOnly g.D.Device.moment g.D.Device.left_since log.device d (λ (f : List ℕ). HasBegun (kept_by log) c.args.batch.now (found f)))
    (sym c.new.ensures.place)
    (λ honest.
    let s = log.settled (c.write_through.ensures.before honest) in
    weaker g.D.Device.moment g.D.Device.left_since _ _ (Mixes log.at c.args.batch.now (g.D.Device.seen log.device)) _
    (c.write_through.ensures.any_moment honest)
    (finds_begun _ _ log.at log.len s c.args.batch.now c.requires.batch.no_zero c.requires.batch.lines c.requires.room c.requires.batch.short))
