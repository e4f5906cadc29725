use Rattle.gu_rules.proofs.LegalLaws.{leaves_less}
use Rattle.gu_rules.proofs.laws_of_accounts.no_more_leaves_an_account_than_it_traded.Goals as goal

pub returns : goal.returns
returns c = leaves_less
