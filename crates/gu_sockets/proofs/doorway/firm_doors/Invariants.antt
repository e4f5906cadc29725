use Rattle.std.proofs.Common.{◌≡◌, true, All, length}
use Rattle.gu_sockets.proofs.doorway.firm_doors.Given as goal

abbrev pub invariant-loop-listener : goal.invariant-loop-listener
invariant-loop-listener l = record {
  all : length l.doors.items ≡ length l.yielded;
  due : All (λ door. door.is_due ≡ true) l.doors.items;
}
