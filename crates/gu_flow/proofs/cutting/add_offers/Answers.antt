use Rattle.gu_flow.proofs.Words.{◌≡◌, ap, sym, ◌∙◌, get_or_default, ViewOffer, cuts_offers, is_reached, no_offer, offer_at}
use Rattle.gu_flow.proofs.CutMembers.{offer_cut, none_cut}
use Rattle.gu_flow.proofs.RoomPlaces.{agreement_read}
use Rattle.gu_flow.proofs.cutting.add_offers.Goals as goal
use Rattle.gu_flow.proofs.cutting.add_offers.Goals.{then-cuts_offers+in_ok-add_offer, else-cuts_offers}

pub loop-number-preserved : goal.loop-number-preserved
loop-number-preserved c =
    let view = c.args.view.now in
    let reached = is_reached c.args.marks.now in
    let arcs = c.args.arcs.now in
    let sound = c.offers-offer-items.ensures.sound in
    let offers = c.offers-offer-items.ensures.offers in
    let i = c.loop-number.number in
    let h = c.loop-number.invariant in
    let inside = rw offers at c.loop-number-test.true in
    let number : c.offer-item.result.number ≡ (offer_at view.offers i).number = ap (λ (o : ViewOffer). o.number) (rw offers at c.offer-item.is ∙ get_or_default view.offers i c.offer-item.result no_offer inside) in
    let told = c.cuts_offers.ensures ∙ ap (cuts_offers reached arcs view.rooms) (agreement_read view i c.agreement_place.result inside c.agreement_place.ensures.place) in
    elim c.if-cuts_offers.branch [
      | then-cuts_offers+in_ok-add_offer w ↦ record {
        offers = rw w.cut-is (offer_cut view sound reached arcs c.loop-number.cut.offers w.add_offer.new.self.offers i w.in_ok-add_offer.field-0 inside h.offers (sym told ∙ w.if-cuts_offers.true) (rw number at w.in_ok-add_offer.ensures.added) (rw number at w.in_ok-add_offer.ensures.offers));
        keys = rw w.cut-is (w.in_ok-add_offer.ensures.keys ∙ h.keys);
      }
      | else-cuts_offers w ↦ record {
        offers = rw w.cut-is (none_cut h.offers (sym told ∙ w.if-cuts_offers.false));
        keys = rw w.cut-is h.keys;
      }
    ]
