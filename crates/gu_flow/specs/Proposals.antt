-- Proposals: the greatest takes of a view, oldest first, and a cut with exactly that room.
use Rattle.std.specs.Prelude.{ℕ, ◌<◌, All, List}
use Rattle.gu_terms.specs.Cuts.{CutLists}
use Rattle.gu_terms.specs.Takes.{lots_of}
use Rattle.gu_terms.specs.declared.takes.Take.{Take}
use Rattle.gu_view.specs.Check.{IsRight}
use Rattle.gu_view.specs.Nearest.{IsNearestCut}
use Rattle.gu_view.specs.Takes.{IsOldestGreatest}
use Rattle.gu_view.specs.View.{GroupView, IsView}

-- a proposal: the view that it was made for, the takes, the cut and the total lots taken
pub record ProposedSweep : Type 0 where
  pub view : GroupView
  pub takes : List Take
  pub cut : CutLists
  pub lots : ℕ

-- the rules of every proposal: it is for a view, passes the check with its lots, names only offers from which it takes lots, is oldest
-- first over the group among the greatest takes, and its cut is the nearest
pub record IsSound (sweep : ProposedSweep) : Type 0 where
  pub of_view : IsView sweep.view
  pub right : IsRight sweep.view sweep.takes sweep.cut sweep.lots
  pub named : All (λ t. 0 < t.lots) sweep.takes
  pub oldest : IsOldestGreatest sweep.view (lots_of sweep.takes)
  pub nearest : IsNearestCut sweep.view sweep.cut
