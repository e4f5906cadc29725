use Rattle.gu_book.proofs.Words.{take, HasRooms}
use Rattle.gu_book.proofs.current.shows_rooms.Given as goal

abbrev pub invariant-loop-room : goal.invariant-loop-room
invariant-loop-room l = HasRooms l.limits l.group (take l.room-index l.rooms)
