use Rattle.gu_view.proofs.Words.{◌≡◌, refl, length, sym, ◌∙◌, true, not, or_from, or_right, not_from_true, not_from_false, slice_get_read, is_covered, Uncovered, ViewOffer, found_here, found_later}
use Rattle.gu_view.proofs.MarkLemmas.{cover_told, cover_any}
use Rattle.gu_view.proofs.checker.first_uncovered.Goals as goal
use Rattle.gu_view.proofs.checker.first_uncovered.Goals.{else-not-numbers-place-via-then-not-numbers-place+else-not-is_marked, else-not-numbers-place-via-else-not-numbers-place}

pub returns-then-not-is_marked : goal.returns-then-not-is_marked
returns-then-not-is_marked c cut keys numbers =
    let view = c.args.view.now in
    let o = c.offer-item.result in
    let same = c.offers-offer-items.ensures.offers in
    let inside = rw same at c.loop-place-test.true in
    let is = rw same at c.offer-item.is in
    let places = rw (slice_get_read view.offers (length view.offers) c.loop-place.place o refl inside is) at c.places.ensures.places in
    let told = cover_told view c.places.ensures.sound cut c.args.keys.now c.args.numbers.now c.loop-place.place o c.places.result.now keys numbers inside is places in
    found_here (λ (o : ViewOffer). not (is_covered cut o)) (λ (o : ViewOffer). Uncovered o.number) view.offers c.loop-place.place o inside is (c.loop-place.invariant cut keys numbers)
    (not_from_false (is_covered cut o) (told ∙ or_from _ _ c.if-not-numbers-place.true (sym c.is_marked.ensures ∙ c.if-not-is_marked.true)))

pub loop-place-preserved : goal.loop-place-preserved
loop-place-preserved c cut keys numbers =
    let view = c.args.view.now in
    let o = c.offer-item.result in
    let same = c.offers-offer-items.ensures.offers in
    let inside = rw same at c.loop-place-test.true in
    let is = rw same at c.offer-item.is in
    let covered : is_covered cut o ≡ true =
    elim c.else-not-numbers-place.branch [
      | else-not-numbers-place-via-then-not-numbers-place+else-not-is_marked w ↦
          let places = rw (slice_get_read view.offers (length view.offers) c.loop-place.place o refl inside is) at w.places.ensures.places in
          cover_told view w.places.ensures.sound cut c.args.keys.now c.args.numbers.now c.loop-place.place o w.places.result.now keys numbers inside is places ∙ or_right _ _ (sym w.is_marked.ensures ∙ w.if-not-is_marked.false)
      | else-not-numbers-place-via-else-not-numbers-place w ↦
          cover_any view c.offers-offer-items.ensures.sound cut c.args.numbers.now c.loop-place.place o numbers inside is w.if-not-numbers-place.false
    ] in
    found_later (λ (o : ViewOffer). not (is_covered cut o)) view.offers c.loop-place.place o inside is (c.loop-place.invariant cut keys numbers) (not_from_true (is_covered cut o) covered)
