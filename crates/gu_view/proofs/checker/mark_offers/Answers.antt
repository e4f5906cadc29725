use Rattle.gu_view.proofs.Words.{◌∙◌, ap, sym, not, set, true, ◌==◌, ℕ, not_from_true, not_from_false, has_offer, Unknown, Offer as UnknownOffer, ViewOffer, found_here, found_later}
use Rattle.gu_view.proofs.MarkLemmas.{not_there, there, mark_offer}
use Rattle.gu_view.proofs.checker.mark_offers.Goals as goal

pub returns-in_default-clause-unknown : goal.returns-in_default-clause-unknown
returns-in_default-clause-unknown c =
    let offers = c.args.offers.now in
    let n = c.number-item.result in
    found_here (λ n. not (has_offer offers n)) (λ (n : ℕ). Unknown (UnknownOffer n)) c.args.numbers.now c.loop-number.number-index n c.loop-number-test.true c.number-item.is c.loop-number.invariant.known_all
    (not_from_false (has_offer offers n) (not_there (λ (o : ViewOffer). o.number == n) offers (sym c.offer_place.ensures ∙ c.in_default.is)))

pub loop-number-preserved : goal.loop-number-preserved
loop-number-preserved c =
    let offers = c.args.offers.now in
    let n = c.number-item.result in
    let at = sym c.offer_place.ensures ∙ c.in-Some.is in
    record {
      known_all = found_later (λ n. not (has_offer offers n)) c.args.numbers.now c.loop-number.number-index n c.loop-number-test.true c.number-item.is c.loop-number.invariant.known_all
          (not_from_true (has_offer offers n) (there (λ (o : ViewOffer). o.number == n) offers c.in-Some.place at));
      marks_are = ap (λ l. set l c.in-Some.place true) c.loop-number.invariant.marks_are
          ∙ mark_offer offers c.requires.ascending c.args.numbers.now c.loop-number.number-index c.in-Some.place n c.loop-number-test.true (rw c.number-item.is at at);
    }
