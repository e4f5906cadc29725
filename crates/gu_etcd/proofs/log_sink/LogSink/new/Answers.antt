use Rattle.std.proofs.Common.{arith}
use Rattle.gu_etcd.proofs.OwnParts.{own_all, own_settled}
use Rattle.gu_etcd.proofs.log_sink.LogSink.new.Goals as goal

pub invariant_of-result : goal.invariant_of-result
invariant_of-result g c =
    let appender = c.args.appender in
    let count = c.count-start.ensures in
    record {
      leads = c.requires;
      started = λ honest. omega (arith, count honest);
      own = λ honest. own_all _ _ _ (count honest);
      found = λ honest log may. own_settled _ _ _ (omega (arith, count honest)) (own_all _ _ _ (count honest)) log (appender.settled honest log may);
    }
