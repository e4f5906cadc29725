use Rattle.gu_offers.proofs.Words.{◌≡◌, ◌∙◌, ap, ◌+◌, ◌-◌, map, slice_get, Some, sym, arith, option_map, slice_get-map, row_of, Row, left_of}
use Rattle.gu_offers.specs.declared.open_offer.OpenOffer.{OpenOffer}
use Rattle.gu_offers.proofs.Found.{row_at-place}
use Rattle.gu_offers.proofs.KeptIds.{shown_by}
use Rattle.gu_offers.proofs.offers.open_offer.Goals as goal

pub returns : goal.returns
returns c = λ day.
    let place : c.args.number - 1 + 1 ≡ c.args.number = omega arith in
    let shown : Row → OpenOffer = λ r. record { number = c.args.number; offer = r.offer; left = left_of r } in
    ap (option_map shown) (row_at-place (map (row_of day) c.args.rows.now) (c.args.number - 1) c.args.number place ∙ slice_get-map (row_of day) c.args.rows.now (c.args.number - 1))
    ∙ shown_by day c.args.number c.left.result c.offer.result (slice_get c.args.rows.now (c.args.number - 1)) c.offer.ensures (c.left.ensures day)
    ∙ ap (λ n. Some (record { number = n; offer = c.offer.result; left = c.left.result })) (sym c.known.ensures)
