use Rattle.gu_notices.proofs.Words.{◌≡◌, ◌<◌, take, fold, next_place}
use Rattle.gu_notices.proofs.firm_filter.FirmPlace.of.Lts.Given as given

pub record invariant-loop-byte (l : given.Live-loop-byte) : Type 0 where
  pub number : l.number ≡ fold next_place 0 (take l.byte-index l.byte-items)
  pub few : l.number < 64
