use Rattle.gu_rules.proofs.Elsewhere.{view-elsewhere}
use Rattle.gu_rules.proofs.laws.an_entry_elsewhere_leaves_the_view.Goals as goal

pub returns : goal.returns
returns c = view-elsewhere
