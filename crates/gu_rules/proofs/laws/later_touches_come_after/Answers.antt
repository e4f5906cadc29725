use Rattle.gu_rules.proofs.VersionLemmas.{touching-append}
use Rattle.gu_rules.proofs.laws.later_touches_come_after.Goals as goal

pub returns : goal.returns
returns c = touching-append
