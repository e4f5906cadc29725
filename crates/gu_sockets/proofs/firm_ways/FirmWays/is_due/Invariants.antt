use Rattle.std.proofs.Common.{◌≡◌, false, take}
use Rattle.std.specs.List.{list_any}
use Rattle.gu_sockets.proofs.firm_ways.FirmWays.is_due.Given as goal

abbrev pub invariant-loop-door : goal.invariant-loop-door
invariant-loop-door g l = list_any (λ door. door.is_due) (take l.door-index l.self.doors.items) ≡ false
