use Rattle.gu_book.proofs.Words.{◌≡◌, ◌++◌, take, filter_map, shown_at}
use Rattle.gu_book.proofs.current.shows_offers.Lts.Given as given

pub record invariant-loop-number (l : given.Live-loop-number) : Type 0 where
  pub same : l.showing ≡ l.fn.showing
  pub begins : l.offers ≡ filter_map (shown_at l.fn.showing.0 l.fn.showing.1) (take l.number-index l.numbers) ++ l.rest
