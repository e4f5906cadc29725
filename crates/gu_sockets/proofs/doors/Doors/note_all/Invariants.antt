use Rattle.std.proofs.Common.{◌≡◌, true}
use Rattle.gu_sockets.specs.declared.doors.Doors.{Doors}
use Rattle.gu_sockets.specs.Doorways.{KeepsWays, is_any_due}
use Rattle.gu_sockets.proofs.doors.Doors.note_all.Given as goal

-- the ways of firms are as they were, and what was due is still
pub record Kept (old new : Doors) : Type 0 where
  pub ways : KeepsWays old new
  pub due : is_any_due old ≡ true → is_any_due new ≡ true

abbrev pub invariant-loop-event : goal.invariant-loop-event
invariant-loop-event l = Kept l.initial.self l.self
