use Rattle.gu_view.proofs.NeededMembers.{nearest_cut_holds_earliest}
use Rattle.gu_view.proofs.laws.nearest_cut_holds_earliest.Goals as goal

pub returns : goal.returns
returns c = nearest_cut_holds_earliest
