use Rattle.std.proofs.Common.{arith}
use Rattle.gu_standby.proofs.follower.Follower.play_page.Goals as goal

pub loop-entry-preserved : goal.loop-entry-preserved
loop-entry-preserved c = (
  omega (arith, c.in_ok-play.ensures.counted, c.loop-entry.invariant.0),
  λ reference played. c.in_ok-play.ensures.played reference (c.loop-entry.invariant.1 reference played),
)
