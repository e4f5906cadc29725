use Rattle.gu_view.proofs.Words.{◌∙◌, ap, sym, get_or, eqb-true, eqb-false, get_or_default, ViewOffer}
use Rattle.gu_view.proofs.MarkLemmas.{place_found, place_past, place_other}
use Rattle.gu_view.proofs.checker.offer_place.Goals as goal
use Rattle.gu_view.proofs.checker.offer_place.Goals.{else-place-offers-via-then-place-offers+else-eq, else-place-offers-via-else-place-offers}

pub returns-then-eq : goal.returns-then-eq
returns-then-eq c =
    let offers = c.args.offers.now in
    let d = c.index-offers-place.result in
    sym (place_found offers c.args.number c.smaller-place.result c.smaller-place.ensures.before d c.if-place-offers.true (eqb-true (get_or offers c.smaller-place.result d).number c.args.number (sym c.eq.ensures ∙ c.if-eq.true)))

pub returns-else-place-offers : goal.returns-else-place-offers
returns-else-place-offers c =
    let offers = c.args.offers.now in
    elim c.else-place-offers.branch [
      | else-place-offers-via-then-place-offers+else-eq w ↦
          let d = w.index-offers-place.result in
          sym (place_other offers c.args.number c.smaller-place.result c.smaller-place.ensures.before c.requires c.smaller-place.ensures.behind w.if-place-offers.true
          (λ e same. eqb-false (get_or offers c.smaller-place.result d).number c.args.number (sym w.eq.ensures ∙ w.if-eq.false) (ap (λ (o : ViewOffer). o.number) (get_or_default offers c.smaller-place.result d e w.if-place-offers.true) ∙ same)))
      | else-place-offers-via-else-place-offers w ↦ sym (place_past offers c.args.number c.smaller-place.result c.smaller-place.ensures.before w.if-place-offers.false)
    ]
