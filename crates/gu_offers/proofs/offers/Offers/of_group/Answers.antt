use Rattle.gu_offers.proofs.Words.{◌≡◌, ◌∙◌, sym, ap, subst, ◌+◌, ◌<◌, ◌≤◌, ◌++◌, ◌∷◌, [], length, take, get_or, arith, AllByRecursion, filter_map, length-map, take_more, row_of, rows_of, open_offer_at}
use Rattle.gu_offers.proofs.Listed.{numbers-within}
use Rattle.gu_offers.proofs.NumberLists.{at_place}
use Rattle.gu_offers.proofs.Written.{filter_map-one_more}
use Rattle.gu_offers.proofs.offers.Offers.of_group.Goals as goal

pub open_offer-requires-clause-some : goal.open_offer-requires-clause-some
open_offer-requires-clause-some c =
    (at_place (λ m. (1 ≤ m) × (m < 1 + length (rows_of c.self.inside))) c.of-number-items.result.now c.loop-number.number-index
    (subst (AllByRecursion (λ m. (1 ≤ m) × (m < 1 + length (rows_of c.self.inside)))) (sym (c.of-number-items.ensures ∙ c.self.invariant.numbers c.args.group))
    (numbers-within c.args.group 1 (rows_of c.self.inside)))
    c.loop-number-test.true).0

pub open_offer-requires-clause-inside : goal.open_offer-requires-clause-inside
open_offer-requires-clause-inside c =
    let within : get_or c.of-number-items.result.now c.loop-number.number-index 0 < 1 + length (rows_of c.self.inside) =
    (at_place (λ m. (1 ≤ m) × (m < 1 + length (rows_of c.self.inside))) c.of-number-items.result.now c.loop-number.number-index
    (subst (AllByRecursion (λ m. (1 ≤ m) × (m < 1 + length (rows_of c.self.inside)))) (sym (c.of-number-items.ensures ∙ c.self.invariant.numbers c.args.group))
    (numbers-within c.args.group 1 (rows_of c.self.inside)))
    c.loop-number-test.true).1 in
    let rows : length (rows_of c.self.inside) ≡ length c.self.inside.rows = length-map c.self.inside.rows (row_of c.self.inside.day) in
    omega (arith, within, rows)

pub loop-number-preserved : goal.loop-number-preserved
loop-number-preserved c =
    c.in_ok-push.ensures.items ∙ ap (λ offers. offers ++ c.open_offer.result ∷ []) c.loop-number.invariant
    ∙ sym (ap (filter_map (open_offer_at (rows_of c.self.inside))) (take_more c.of-number-items.result.now c.loop-number.number-index 0 c.loop-number-test.true)
    ∙ filter_map-one_more (open_offer_at (rows_of c.self.inside)) (take c.loop-number.number-index c.of-number-items.result.now)
    (get_or c.of-number-items.result.now c.loop-number.number-index 0) c.open_offer.result
    (c.open_offer.ensures c.self.inside.day))
