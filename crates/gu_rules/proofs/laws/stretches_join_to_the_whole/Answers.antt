use Rattle.gu_rules.proofs.StretchLemmas.{notices-all, notices-joined, notices-joined-rest}
use Rattle.gu_rules.proofs.laws.stretches_join_to_the_whole.Goals as goal

pub returns : goal.returns
returns c = record { between = notices-joined; rest = notices-joined-rest; whole = notices-all }
