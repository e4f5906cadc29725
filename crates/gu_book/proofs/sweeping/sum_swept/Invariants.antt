use Rattle.gu_book.proofs.Words.{◌≡◌, take, lots_swept}
use Rattle.gu_book.proofs.sweeping.sum_swept.Given as goal

abbrev pub invariant-loop-place : goal.invariant-loop-place
invariant-loop-place l = l.lots ≡ lots_swept (take l.place l.history)
