-- Two sweeps that may follow are the same: they take the same lots from each offer, and have the same cut.
use Rattle.gu_days.proofs.Words.{◌≡◌, SweepEntry, GroupView, IsSameSweep}
use Rattle.gu_view.proofs.NearestCuts.{HasRoomsOfKeys, one_cut}
use Rattle.gu_rules.specs.Sweeps.{IsSweepOf}
use Rattle.gu_script.proofs.OneChoice.{same_lots, same_takes}

-- the sweeps of one view, whose rooms are those of its keys, are one sweep
pub same_sweep : (view : GroupView) (sweep other : SweepEntry) → IsSweepOf view sweep → IsSweepOf view other → HasRoomsOfKeys view
    → other.group ≡ sweep.group → IsSameSweep sweep other
same_sweep view sweep other mine theirs rooms group = record {
  group = group;
  lots = same_lots view sweep other mine theirs;
  takes = same_takes view sweep other mine theirs;
  cut = one_cut view rooms sweep.cut other.cut mine.nearest theirs.nearest;
}
