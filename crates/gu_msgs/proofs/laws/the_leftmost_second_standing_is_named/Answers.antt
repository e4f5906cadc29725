use Rattle.gu_msgs.proofs.SecondStandings.{leftmost}
use Rattle.gu_msgs.proofs.laws.the_leftmost_second_standing_is_named.Goals as goal

pub returns : goal.returns
returns c = leftmost
