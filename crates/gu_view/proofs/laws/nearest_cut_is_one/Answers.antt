use Rattle.gu_view.proofs.NearestCuts.{nearest_cut_is_one}
use Rattle.gu_view.proofs.laws.nearest_cut_is_one.Goals as goal

pub returns : goal.returns
returns c = nearest_cut_is_one
