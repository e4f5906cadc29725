use Rattle.gu_days.proofs.Plays.{day_again}
use Rattle.gu_days.proofs.laws.what_says_a_day_plays_to_it.Goals as goal

pub returns : goal.returns
returns c = day_again c.a_line_says_one_thing.ensures
