use Rattle.gu_rules.proofs.LegalLaws.{view-stays}
use Rattle.gu_rules.proofs.laws_of_accounts.entries_elsewhere_leave_the_view.Goals as goal

pub returns : goal.returns
returns c = view-stays
