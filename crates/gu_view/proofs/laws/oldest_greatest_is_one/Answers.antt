use Rattle.gu_view.proofs.OldestGreatest.{oldest_greatest_is_one}
use Rattle.gu_view.proofs.laws.oldest_greatest_is_one.Goals as goal

pub returns : goal.returns
returns c = λ view lots others. oldest_greatest_is_one view lots others
