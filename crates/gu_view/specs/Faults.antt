-- The numbers and names of faults.
use Rattle.std.specs.Prelude.{ℕ, List, codes}
use Rattle.gu_view.specs.declared.error.CutFault.{CutFault}
use Rattle.gu_view.specs.declared.error.CutFault.TheVariants.{OverOffer, OverLimit, Uncovered, RoomDiffers, Unknown, NotOldestFirst}

-- the number of a fault in a reply
abbrev pub number_of : CutFault → ℕ
number_of (OverOffer _) = 1
number_of (OverLimit _) = 2
number_of (Uncovered _) = 3
number_of RoomDiffers = 4
number_of (Unknown _) = 5
number_of (NotOldestFirst _) = 6

-- its name
abbrev pub name_of : CutFault → List ℕ
name_of (OverOffer _) = codes "OverOffer"
name_of (OverLimit _) = codes "OverLimit"
name_of (Uncovered _) = codes "Uncovered"
name_of RoomDiffers = codes "RoomDiffers"
name_of (Unknown _) = codes "Unknown"
name_of (NotOldestFirst _) = codes "NotOldestFirst"
