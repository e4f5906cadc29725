use Rattle.gu_standby.proofs.following.claim_once.Goals as goal

pub returns-after-branch-3-clause-played : goal.returns-after-branch-3-clause-played
returns-after-branch-3-clause-played g c = λ reference played. c.in_ok-followed-in-Ok-Some.ensures.played reference (c.in_ok-read.ensures.played reference played)
