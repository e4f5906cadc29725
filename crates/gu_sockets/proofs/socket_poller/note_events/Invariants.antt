use Rattle.std.proofs.Common.{◌≡◌, ◌++◌, filter_map}
use Rattle.mio.specs.Events.{items}
use Rattle.gu_sockets.specs.Readiness.{readiness_of}
use Rattle.gu_sockets.proofs.socket_poller.note_events.Given as goal

abbrev pub invariant-loop-event : goal.invariant-loop-event
invariant-loop-event l =
    l.ready.items ++ filter_map readiness_of l.event-iterator.rest.now ≡ l.initial.ready.items ++ filter_map readiness_of (items l.events)
