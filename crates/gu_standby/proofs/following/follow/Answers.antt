use Rattle.gu_standby.proofs.following.follow.Goals as goal

pub returns-in-Ends-clause-played : goal.returns-in-Ends-clause-played
returns-in-Ends-clause-played g c = λ reference played. c.in_ok-followed.ensures.played reference (c.loop-look.invariant.2 reference played)

pub returns-in-Some-2-clause-played : goal.returns-in-Some-2-clause-played
returns-in-Some-2-clause-played g c = λ reference played.
    c.in_ok-followed-2.ensures.played reference (c.in_ok-followed.ensures.played reference (c.loop-look.invariant.2 reference played))

pub loop-look-preserved : goal.loop-look-preserved
loop-look-preserved g c = (
  tt,
  tt,
  λ reference played.
      c.in_ok-followed-2.ensures.played reference (c.in_ok-followed.ensures.played reference (c.loop-look.invariant.2 reference played)),
)
