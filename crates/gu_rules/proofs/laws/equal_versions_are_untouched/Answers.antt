use Rattle.gu_rules.proofs.VersionLemmas.{equal_versions}
use Rattle.gu_rules.proofs.laws.equal_versions_are_untouched.Goals as goal

pub returns : goal.returns
returns c = equal_versions
