use Rattle.gu_standby.proofs.following.claim_few.Goals as goal

pub returns-in-Some-clause-played : goal.returns-in-Some-clause-played
returns-in-Some-clause-played g c = λ reference played. c.in_ok-claimed.ensures.played reference (c.loop-claim.invariant reference played)

pub loop-claim-preserved : goal.loop-claim-preserved
loop-claim-preserved g c = λ reference played. c.in_ok-claimed.ensures.played reference (c.loop-claim.invariant reference played)
