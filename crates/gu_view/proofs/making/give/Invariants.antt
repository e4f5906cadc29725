use Rattle.gu_view.proofs.Words.{take, get, key_eq, IsGiven}
use Rattle.gu_view.proofs.making.give.Given as goal

abbrev pub invariant-loop-room : goal.invariant-loop-room
invariant-loop-room l = IsGiven l.keys.keys (take l.room-index l.rooms) (get key_eq l.lots)
