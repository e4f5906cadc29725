use Rattle.gu_view.proofs.Words.{arith, nat_lt, lt-ltb, le-ltb, OverOffer, ViewOffer, found_here, found_later}
use Rattle.gu_view.proofs.TakesLemmas.{lots_here, sum_more}
use Rattle.gu_view.proofs.takes.over_offer.Goals as goal

pub returns-then-offer-taken-clause-first : goal.returns-then-offer-taken-clause-first
returns-then-offer-taken-clause-first c lots are =
    let o = c.index-offers-place.result in
    let offers = c.args.offers.now in
    let taken = lots_here offers c.args.taken.now lots c.loop-place.place o are c.loop-place-test.true c.index-offers-place.is in
    found_here (λ (o : ViewOffer). nat_lt o.lots (lots o.number)) (λ (o : ViewOffer). OverOffer o.number) offers c.loop-place.place o c.loop-place-test.true c.index-offers-place.is (c.loop-place.invariant.first lots are) (lt-ltb o.lots (lots o.number) (omega arith))

pub loop-place-preserved : goal.loop-place-preserved
loop-place-preserved c =
    let o = c.index-offers-place.result in
    let offers = c.args.offers.now in
    record {
      first = λ lots are.
          let taken = lots_here offers c.args.taken.now lots c.loop-place.place o are c.loop-place-test.true c.index-offers-place.is in
          found_later (λ (o : ViewOffer). nat_lt o.lots (lots o.number)) offers c.loop-place.place o c.loop-place-test.true c.index-offers-place.is (c.loop-place.invariant.first lots are) (le-ltb o.lots (lots o.number) (omega arith));
      within = sum_more c.args.taken.now offers c.loop-place.place o (omega (arith, c.requires)) c.loop-place-test.true c.index-offers-place.is c.loop-place.invariant.within c.if-offer-taken.false;
    }
