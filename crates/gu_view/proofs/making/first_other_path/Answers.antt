use Rattle.gu_view.proofs.Words.{◌≡◌, ◌∙◌, sym, ap, Some, cond, get, or_left, or_right, not_from_false, not-false, not-true, ViewOffer, eq, eq_is, key_eq, found_here}
use Rattle.gu_view.proofs.DerivedEq.{same, same_is}
use Rattle.gu_view.proofs.MakingLemmas.{agreement_eq, is_odd, odd_known, seen_known, seen_new, lookup-agree, path_eq-same, pointwise-agree}
use Rattle.gu_view.proofs.making.first_other_path.Goals as goal
use Rattle.gu_view.proofs.making.first_other_path.Goals.{in-Some+else-ne, in-None+in_ok-insert-in-None}

pub returns-then-not-is_own : goal.returns-then-not-is_own
returns-then-not-is_own c =
    let o = c.offer-item.result in
    found_here (is_odd c.args.offers.now) (λ (o : ViewOffer). o.number) c.args.offers.now c.loop-offer.offer-index o c.loop-offer-test.true c.offer-item.is c.loop-offer.invariant.even
    (or_left _ _ (not_from_false _ (sym c.is_own.ensures ∙ c.if-not-is_own.true)))

pub returns-then-ne : goal.returns-then-ne
returns-then-ne c =
    let o = c.offer-item.result in
    let known = lookup-agree (agreement_eq o.agreement) (same o.agreement) c.loop-offer.paths.entries (λ j. sym (same_is o.agreement j)) ∙ sym c.in-Some.ensures.value in
    found_here (is_odd c.args.offers.now) (λ (o : ViewOffer). o.number) c.args.offers.now c.loop-offer.offer-index o c.loop-offer-test.true c.offer-item.is c.loop-offer.invariant.even
    (or_right _ _ (odd_known c.args.offers.now c.loop-offer.offer-index (get agreement_eq c.loop-offer.paths) o c.requires.ascending c.loop-offer-test.true c.offer-item.is c.loop-offer.invariant c.in-Some.path.now known (pointwise-agree key_eq eq c.in-Some.path.now o.path (λ j k. sym (eq_is j k)) ∙ not-true _ (rw (c.keys.ensures.keys, c.keys-in-Some.ensures.keys) at (sym c.ne.ensures ∙ c.if-ne.true)))))

pub loop-offer-preserved : goal.loop-offer-preserved
loop-offer-preserved c =
    let o = c.offer-item.result in
    let own = sym c.is_own.ensures ∙ c.if-not-is_own.false in
    elim c.match-get.branch [
      | in-Some+else-ne w ↦
          let known = lookup-agree (agreement_eq o.agreement) (same o.agreement) c.loop-offer.paths.entries (λ j. sym (same_is o.agreement j)) ∙ sym w.in-Some.ensures.value in
          let path : w.in-Some.path.now ≡ o.path =
          path_eq-same w.in-Some.path.now o.path (pointwise-agree key_eq eq w.in-Some.path.now o.path (λ j k. sym (eq_is j k)) ∙ not-false _ (rw (w.keys.ensures.keys, w.keys-in-Some.ensures.keys) at (sym w.ne.ensures ∙ w.if-ne.false))) in
          rw w.paths-is (seen_known c.args.offers.now c.loop-offer.offer-index (get agreement_eq c.loop-offer.paths) o c.requires.ascending c.loop-offer-test.true c.offer-item.is c.loop-offer.invariant own (known ∙ ap (λ p. Some p) path))
      | in-None+in_ok-insert-in-None w ↦
          let none = lookup-agree (agreement_eq o.agreement) (same o.agreement) c.loop-offer.paths.entries (λ j. sym (same_is o.agreement j)) ∙ sym w.in-None.ensures.value in
          rw w.paths-is (seen_new c.args.offers.now c.loop-offer.offer-index (get agreement_eq c.loop-offer.paths) o c.requires.ascending c.loop-offer-test.true c.offer-item.is c.loop-offer.invariant (get agreement_eq w.insert.new.self) own none
          (λ a.
          lookup-agree (agreement_eq a) (same a) w.insert.new.self.entries (λ j. sym (same_is a j))
          ∙ w.in_ok-insert-in-None.ensures.updates.0 a
          ∙ ap (λ b. cond b (Some o.path) (get same c.loop-offer.paths a)) (same_is o.agreement a)
          ∙ ap (cond (agreement_eq o.agreement a) (Some o.path)) (lookup-agree (same a) (agreement_eq a) c.loop-offer.paths.entries (same_is a))))
    ]
