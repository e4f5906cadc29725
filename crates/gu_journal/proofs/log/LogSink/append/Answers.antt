use Rattle.gu_journal.specs.Kept.{kept_by}
use Rattle.gu_journal.proofs.Appends.{begun_after, begun_none, err_both, err_implies, later_reason, ok_both, ok_implies}
use Rattle.gu_journal.proofs.log.LogSink.append.Goals as goal

pub returns-in-Ok-clause-any_moment : goal.returns-in-Ok-clause-any_moment
returns-in-Ok-clause-any_moment g c =
    let log = c.args.self in
    let mid = c.in-Ok.log in
    ok_implies _ _ c.put.result (ok_both _ _ c.put.result c.put.ensures.before c.put.ensures.any_moment) (λ sink both honest.
    let was = both.0 honest in
    begun_after g.D.Device.moment g.D.Device.left_since log.device mid.device sink.device (kept_by log) (kept_by mid) c.args.batch.now
    (c.in-Ok.ensures.kept was) (c.in-Ok.ensures.any_moment was) (both.1 honest))

pub returns-in-Ok-clause-any_moment_stopped : goal.returns-in-Ok-clause-any_moment_stopped
returns-in-Ok-clause-any_moment_stopped g c =
    let log = c.args.self in
    let mid = c.in-Ok.log in
    err_implies _ _ c.put.result (err_both _ _ c.put.result c.put.ensures.before_stopped c.put.ensures.any_moment_stopped) (λ stopped both honest.
    let was = both.0 honest in
    begun_after g.D.Device.moment g.D.Device.left_since log.device mid.device stopped.place (kept_by log) (kept_by mid) c.args.batch.now
    (c.in-Ok.ensures.kept was) (c.in-Ok.ensures.any_moment was) (both.1 honest))

pub returns-in-Ok-clause-reason : goal.returns-in-Ok-clause-reason
returns-in-Ok-clause-reason g c =
    let log = c.args.self in
    let mid = c.in-Ok.log in
    err_implies _ _ c.put.result (err_both _ _ c.put.result c.put.ensures.before_stopped c.put.ensures.reason) (λ stopped both honest.
    let was = both.0 honest in
    let counts = c.in-Ok.ensures.counts was in
    later_reason g.D.Device.failures g.D.Device.shortages (kept_by log) (kept_by mid) log.device mid.device stopped
    (c.in-Ok.ensures.kept was) counts.0 counts.1 (both.1 honest))

pub returns-in-Err-clause-any_moment_stopped : goal.returns-in-Err-clause-any_moment_stopped
returns-in-Err-clause-any_moment_stopped g c honest =
    let log = c.args.self in
    begun_none g.D.Device.moment g.D.Device.left_since log.device c.in-Err.stopped.place (kept_by log) c.args.batch.now
    (c.in-Err.ensures.any_moment_stopped honest)
