use Rattle.std.proofs.Common.{◌∙◌, ap, not}
use Rattle.gu_standby.proofs.follower.Follower.read_pages.Goals as goal

pub returns-then-not-page-clause-played : goal.returns-then-not-page-clause-played
returns-then-not-page-clause-played g c = λ reference played. c.in_ok-play_page.ensures.played reference (c.loop-self.invariant.1 reference played)

pub loop-self-preserved : goal.loop-self-preserved
loop-self-preserved g c = (
  c.in_ok-play_page.ensures.whole ∙ ap not c.if-not-page.false,
  λ reference played. c.in_ok-play_page.ensures.played reference (c.loop-self.invariant.1 reference played),
)
