use Rattle.gu_msgs.proofs.Words.{◌≡◌, false, take, is_listed}
use Rattle.gu_msgs.proofs.places.place_of.Given as goal

abbrev pub invariant-loop-place : goal.invariant-loop-place
invariant-loop-place l = is_listed (take l.place l.rows) l.tag ≡ false
