use Rattle.gu_days.proofs.Again.{says_again}
use Rattle.gu_days.proofs.laws.what_is_played_back_says_the_same.Goals as goal

pub returns : goal.returns
returns c = says_again
