use Rattle.gu_ref.specs.Tables.{Tables}
use Rattle.gu_standby.specs.Following.{HasPlayed}
use Rattle.gu_standby.proofs.following.claim_few.Given as goal

-- what is played was played so far
abbrev pub invariant-loop-claim : goal.invariant-loop-claim
invariant-loop-claim g l = (reference : Tables) → HasPlayed reference l.fn.follower → HasPlayed reference l.follower
