use Rattle.gu_offers.proofs.Words.{◌∙◌, ap, refl, slice_get, sym, option_map_or, Row}
use Rattle.gu_offers.proofs.Found.{row_at-kept}
use Rattle.gu_offers.proofs.KeptIds.{read_by}
use Rattle.gu_offers.proofs.offers.Offers.moved_today.Goals as goal

pub returns : goal.returns
returns c =
    sym (ap (λ o. option_map_or (λ (r : Row). r.today) o 0) (row_at-kept c.self.inside c.args.self.now c.self.view_is c.place_of-place.result c.args.number c.place_of-place.ensures (slice_get c.self.inside.rows c.place_of-place.result) refl)
    ∙ read_by (λ (r : Row). r.today) c.self.inside.day (slice_get c.self.inside.rows c.place_of-place.result) c.moved_on.result c.moved_on.ensures)
