use Rattle.gu_ref.specs.Tables.{Tables}
use Rattle.gu_standby.specs.Following.{HasPlayed}
use Rattle.gu_standby.proofs.following.follow.Given as goal

-- what is played was played so far, and the looks go on
abbrev pub invariant-loop-look : goal.invariant-loop-look
invariant-loop-look g l =
    (goal.iterator-loop-look g).can_next l._look-iterator
    × (goal.iterator-loop-look g).is_finite l._look-iterator
    × ((reference : Tables) → HasPlayed reference l.fn.follower → HasPlayed reference l.follower)
