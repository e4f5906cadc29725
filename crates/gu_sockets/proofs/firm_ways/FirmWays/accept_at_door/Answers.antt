use Rattle.std.proofs.Common.{refl}
use Rattle.gu_sockets.proofs.WayLemmas.{after_failure, came_by_door, one_is_due, same_listeners}
use Rattle.gu_sockets.proofs.firm_ways.FirmWays.accept_at_door.Goals as goal

pub returns-in_err-accepted-clause-listeners : goal.returns-in_err-accepted-clause-listeners
returns-in_err-accepted-clause-listeners g c = record {
  port = refl;
  doors = same_listeners c.args.self.now.doors.items c.args.number _ _ c.index_mut.ensures.value c.accept.ensures.listener;
}

pub returns-in_err-accepted-clause-failed : goal.returns-in_err-accepted-clause-failed
returns-in_err-accepted-clause-failed g c =
    after_failure _ _ (one_is_due c.args.self.now.doors.items c.args.number c.accept.new.self _ c.requires c.in_err-accepted.ensures.failed)

pub returns-in-Some-clause-listeners : goal.returns-in-Some-clause-listeners
returns-in-Some-clause-listeners g c = record {
  port = refl;
  doors = same_listeners c.args.self.now.doors.items c.args.number _ _ c.index_mut.ensures.value c.accept.ensures.listener;
}

pub returns-in-Some-clause-came : goal.returns-in-Some-clause-came
returns-in-Some-clause-came g c =
    let accepted = rw c.in-Some.is at c.in_ok-accepted.ensures.accepted in
    came_by_door g.D.Listens.accepts c.args.self.now.doors.items c.args.number _ _ c.requires c.index_mut.ensures.value accepted

pub returns-in-None-clause-listeners : goal.returns-in-None-clause-listeners
returns-in-None-clause-listeners g c = record {
  port = refl;
  doors = same_listeners c.args.self.now.doors.items c.args.number _ _ c.index_mut.ensures.value c.accept.ensures.listener;
}
