use Rattle.gu_offers.proofs.Words.{◌∙◌, ap, refl, slice_get, sym, option_map, Offer, Row}
use Rattle.gu_offers.proofs.Found.{row_at-kept}
use Rattle.gu_offers.proofs.KeptIds.{offer_by}
use Rattle.gu_offers.proofs.offers.Offers.get.Goals as goal

pub returns : goal.returns
returns c =
    sym (ap (option_map (λ (r : Row). r.offer)) (row_at-kept c.self.inside c.args.self.now c.self.view_is c.place_of-place.result c.args.number c.place_of-place.ensures (slice_get c.self.inside.rows c.place_of-place.result) refl)
    ∙ offer_by (λ (o : Offer). o) c.self.inside.day (slice_get c.self.inside.rows c.place_of-place.result) ∙ c.offer.ensures)
