use Rattle.gu_view.proofs.CutBounds.{cut_bounds_takes}
use Rattle.gu_view.proofs.laws.cut_bounds_takes.Goals as goal

pub returns : goal.returns
returns c = cut_bounds_takes
