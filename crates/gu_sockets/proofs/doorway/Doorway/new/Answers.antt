use Rattle.std.proofs.Common.{◌∙◌, ap, sym}
use Rattle.gu_sockets.proofs.WayLemmas.{first_holds, new_is_due}
use Rattle.gu_sockets.proofs.doorway.Doorway.new.Goals as goal

pub returns-clause-due : goal.returns-clause-due
returns-clause-due g c is_open =
    let made = c.new-3.ensures in
    let same = c.in_ok-port.ensures.due ∙ sym c.in_ok-port.ensures.there in
    let due = new_is_due c.new-3.result c.in_ok-port.port c.in_ok-doors.doors.items made.port (ap (λ doors. doors.items) made.doors) same c.in_ok-doors.ensures.due is_open in
    first_holds _ _ (first_holds _ _ due)
