use Rattle.gu_book.proofs.Words.{◌≡◌, take, filter_map, shown_at}
use Rattle.gu_book.proofs.views.offers_of.Given as goal

abbrev pub invariant-loop-number : goal.invariant-loop-number
invariant-loop-number l = record {
  same : l.showing ≡ (l.reference, l.totals.offers);
  so_far : l.offers.items ≡ filter_map (shown_at l.reference l.totals.offers) (take l.number-index l.numbers);
}
