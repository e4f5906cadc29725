use Rattle.gu_book.proofs.Words.{drop, map, take, Tables, MayMove, MovesAll, taken_by}
use Rattle.gu_book.proofs.sweeping.carry_out.Lts.Given as given

pub record invariant-loop-transfer (l : given.Live-loop-transfer) : Type 0 where
  pub moves : (reference : Tables) → MayMove reference l.fn.totals l.transfers
      → MayMove reference l.totals (drop l.transfer-index l.transfers) × MovesAll reference l.fn.totals l.totals (map taken_by (take l.transfer-index l.transfers))
