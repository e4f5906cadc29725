use Rattle.gu_book.proofs.Words.{take, AllByRecursion, Tables, SameAnswers, AreReady, IsShownOpen}
use Rattle.gu_book.proofs.sweeping.transfers_of.Lts.Given as given

pub record invariant-loop-take (l : given.Live-loop-take) : Type 0 where
  pub ready : (reference : Tables) → AllByRecursion (IsShownOpen reference l.fn.totals l.view.offers) l.takes
      → AreReady reference l.totals (take l.take-index l.takes) l.transfers.items
  pub same : SameAnswers l.fn.totals l.totals
