-- What an event of the system says of a connection.
use Rattle.std.specs.Prelude.{◌==◌, ◌-◌, ◌^◌, ◌||◌, Option, Some, None, if◌then◌else◌}
use Rattle.mio.specs.Event.{event_token, is_error, is_read_closed, is_readable, is_writable}
use Rattle.mio.specs.declared.event.event.Event.{Event}
use Rattle.gu_talks.specs.declared.poller.Ready.{Ready}

-- an event says that the connection at the place of its token is ready, and for what; a failed connection is ending. The greatest token
-- belongs to the bell
abbrev pub readiness_of : Event → Option Ready
readiness_of event =
    let place = (event_token event).0 in
    if place == 2 ^ 64 - 1
    then None
    else Some (record {
      place = place;
      is_readable = is_readable event;
      is_writable = is_writable event;
      is_ending = is_read_closed event || is_error event;
    })
