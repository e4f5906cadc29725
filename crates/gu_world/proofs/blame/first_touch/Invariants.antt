use Rattle.gu_world.proofs.Words.{◌≡◌, None, nat_lt, take, find, touching, own_of}
use Rattle.gu_world.proofs.blame.first_touch.Given as goal

abbrev pub invariant-loop-place : goal.invariant-loop-place
invariant-loop-place l = record {
  own : l.own.items ≡ own_of (take l.place l.history) l.group;
  none : find (nat_lt l.seen) (touching (take l.place l.history) l.group) ≡ None;
}
