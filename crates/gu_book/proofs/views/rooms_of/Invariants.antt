use Rattle.gu_book.proofs.Words.{◌≡◌, take, rooms_in}
use Rattle.gu_book.proofs.views.rooms_of.Given as goal

abbrev pub invariant-loop-key : goal.invariant-loop-key
invariant-loop-key l = l.rooms.items ≡ rooms_in l.limits l.group (take l.key-index l.keys)
