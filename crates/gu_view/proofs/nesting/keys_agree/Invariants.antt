use Rattle.gu_view.proofs.Words.{◌≡◌, true, take, list_all, room_agrees}
use Rattle.gu_view.proofs.nesting.keys_agree.Given as goal

abbrev pub invariant-loop-place : goal.invariant-loop-place
invariant-loop-place l = list_all (room_agrees l.view.offers) (take l.place l.view.rooms) ≡ true
