use Rattle.gu_view.proofs.OldestGreatest.{oldest_first_in_agreements}
use Rattle.gu_view.proofs.laws.oldest_greatest_is_oldest_first.Goals as goal

pub returns : goal.returns
returns c = oldest_first_in_agreements
