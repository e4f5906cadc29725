use Rattle.gu_world.proofs.RunLemmas.{IsRun-append, length-outcomes}
use Rattle.gu_world.proofs.laws.runs_join.Goals as goal

pub returns : goal.returns
returns c = record { joined = IsRun-append; one_each = length-outcomes }
