use Rattle.gu_standby.proofs.following.look_once.Goals as goal

pub returns-in-Whole-2-clause-played : goal.returns-in-Whole-2-clause-played
returns-in-Whole-2-clause-played g c = λ reference played. c.try_once.ensures.played reference (c.in_ok-read_page.ensures.played reference played)
