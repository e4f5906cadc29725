use Rattle.gu_view.proofs.Words.{arith, ◌≡◌, refl, length, sym, ap, ◌∙◌, true, false, ◌||◌, get_or, nat_lt, lt-ltb, le-ltb, and_from, and_left, and_right, or_right, or-false, set-get_or, slice_get_read, NotOldestFirst, ViewOffer, found_here}
use Rattle.gu_view.proofs.TakesLemmas.{is_too_early, mark_says, walked_more, lots_here}
use Rattle.gu_view.proofs.takes.first_too_early.Goals as goal
use Rattle.gu_view.proofs.takes.first_too_early.Goals.{then-taken-place, else-taken-place, else-taken-place-gt0-via-then-taken-place-gt0+else-short-agreement, else-taken-place-gt0-via-else-taken-place-gt0}

pub returns-then-short-agreement : goal.returns-then-short-agreement
returns-then-short-agreement c lots are =
    let view = c.args.view.now in
    let o = c.offer-item.result in
    let same = c.offers-offer-items.ensures.offers in
    let inside = rw same at c.loop-place-test.true in
    let is = rw same at c.offer-item.is in
    let at = rw (slice_get_read view.offers (length view.offers) c.loop-place.place o refl inside is) at c.agreement_place-agreement.ensures.place in
    let walked = c.loop-place.invariant lots are in
    let taken = lots_here view.offers c.args.taken.now lots c.loop-place.place o are inside is in
    let says = mark_says view c.offers-offer-items.ensures.sound lots c.loop-place.place c.agreement_place-agreement.result c.loop-place.short o inside is c.agreement_place-agreement.ensures.within at walked in
    found_here (is_too_early view.offers lots) (λ (o : ViewOffer). NotOldestFirst o.number) view.offers c.loop-place.place o inside is walked.none_early
    (and_from _ _ (lt-ltb 0 (lots o.number) (omega arith)) (says ∙ c.if-short-agreement.true))

pub loop-place-preserved : goal.loop-place-preserved
loop-place-preserved c lots are =
    let view = c.args.view.now in
    let o = c.offer-item.result in
    let same = c.offers-offer-items.ensures.offers in
    let inside = rw same at c.loop-place-test.true in
    let is = rw same at c.offer-item.is in
    let at = rw (slice_get_read view.offers (length view.offers) c.loop-place.place o refl inside is) at c.agreement_place-agreement.ensures.place in
    let walked = c.loop-place.invariant lots are in
    let place = c.agreement_place-agreement.result in
    let taken = lots_here view.offers c.args.taken.now lots c.loop-place.place o are inside is in
    let says = mark_says view c.offers-offer-items.ensures.sound lots c.loop-place.place place c.loop-place.short o inside is c.agreement_place-agreement.ensures.within at walked in
    let quiet : is_too_early view.offers lots o ≡ false =
    elim c.else-taken-place-gt0.branch [
      | else-taken-place-gt0-via-then-taken-place-gt0+else-short-agreement w ↦ and_right _ _ (says ∙ w.if-short-agreement.false)
      | else-taken-place-gt0-via-else-taken-place-gt0 w ↦ and_left _ _ (le-ltb 0 (lots o.number) (omega arith))
    ] in
    let more = walked_more view c.offers-offer-items.ensures.sound lots c.loop-place.place place c.loop-place.short o inside is c.agreement_place-agreement.ensures.within at walked in
    elim c.if-taken-place.branch [
      | then-taken-place w ↦ rw w.short-is (more true quiet (sym (or_right (get_or c.loop-place.short place false) (nat_lt (lots o.number) o.lots) (lt-ltb (lots o.number) o.lots (omega arith)))))
      | else-taken-place w ↦
          rw (w.short-is, ← set-get_or c.loop-place.short place false)
          (more (get_or c.loop-place.short place false) quiet (sym (ap (λ b. get_or c.loop-place.short place false || b) (le-ltb (lots o.number) o.lots (omega arith)) ∙ or-false (get_or c.loop-place.short place false))))
    ]
