use Rattle.gu_offers.proofs.Words.{◌≡◌, take, filter_map, rows_of, open_offer_at}
use Rattle.gu_offers.proofs.offers.Offers.of_group.Given as goal

abbrev pub invariant-loop-number : goal.invariant-loop-number
invariant-loop-number l = l.offers.items ≡ filter_map (open_offer_at (rows_of l.self-inside)) (take l.number-index l.number-items)
