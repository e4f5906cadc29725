-- Sweeps that may be committed after a history.
use Rattle.std.specs.Prelude.{◌≡◌, ◌==◌, true, List, [], ◌∷◌, map}
use Rattle.std.specs.List.{IsDistinct}
use Rattle.gu_terms.specs.LimitKeys.{key_eq}
use Rattle.gu_terms.specs.Takes.{IsAscending, lots_of}
use Rattle.gu_terms.specs.declared.entry.Entry.{Entry}
use Rattle.gu_terms.specs.declared.entry.SweepEntry.{SweepEntry}
use Rattle.gu_terms.specs.declared.entry.Entry.TheVariants.{Swept}
use Rattle.gu_terms.specs.declared.takes.Take.{Take}
use Rattle.gu_ref.specs.Reference.{is_group}
use Rattle.gu_ref.specs.Tables.{Tables}
use Rattle.gu_view.specs.Check.{IsRight}
use Rattle.gu_view.specs.Nearest.{IsNearestCut}
use Rattle.gu_view.specs.Takes.{IsOldestGreatest}
use Rattle.gu_view.specs.View.{GroupView}
use Rattle.gu_rules.specs.Views.{group_view}

-- a sweep of a view: its takes fit each offer and room, are the greatest that do, and among those give older offers most; its cut covers
-- each offer, with a room of exactly the lots taken, and is the nearest; takes ascend, and the cut names each key and offer once
pub record IsSweepOf (view : GroupView) (sweep : SweepEntry) : Type 0 where
  pub ascending : IsAscending sweep.takes
  pub keys : IsDistinct key_eq sweep.cut.keys
  pub offers : IsDistinct (λ m n. m == n) sweep.cut.offers
  pub right : IsRight view sweep.takes sweep.cut sweep.lots
  pub oldest : IsOldestGreatest view (lots_of sweep.takes)
  pub nearest : IsNearestCut view sweep.cut

-- a sweep may follow these entries: it is of a group in the reference, as its view is then
pub record MaySweep (reference : Tables) (before : List Entry) (sweep : SweepEntry) : Type 0 where
  pub known : is_group reference sweep.group ≡ true
  pub sweeps : IsSweepOf (group_view reference before sweep.group) sweep

-- one take of a sweep, as a sweep with that take alone
abbrev pub part : SweepEntry → Take → Entry
part sweep take = Swept (record { group = sweep.group; takes = take ∷ []; cut = sweep.cut; lots = take.lots })

-- the takes of a sweep, one after another, each as a sweep
abbrev pub parts : SweepEntry → List Take → List Entry
parts sweep takes = map (part sweep) takes
