use Rattle.gu_flow.proofs.Words.{◌≡◌, ◌<◌, ◌∙◌, ◌++◌, ◌∷◌, [], ap, arith, subst, sym, length, min, get_or, nat_lt, filter-append, Take, get_or_default, ViewOffer, no_offer, offer_at, above_zero, AreSharesBefore}
use Rattle.gu_flow.proofs.SomeLots.{above_zero-ascend}
use Rattle.gu_flow.proofs.RoomPlaces.{agreement_read}
use Rattle.gu_flow.proofs.ShareLemmas.{shares_ascend, one_more_share}
use Rattle.gu_flow.proofs.sharing.share_out.Goals as goal

pub loop-number-preserved : goal.loop-number-preserved
loop-number-preserved c =
    let view = c.args.view.now in
    let i = c.loop-number.number in
    let shares = c.loop-number.invariant.shares in
    let h = c.loop-number.invariant.sharing in
    let offers = c.offers-offer-items.ensures.offers in
    let inside = rw offers at c.loop-number-test.true in
    let o = c.offer-item.result in
    let is : o ≡ offer_at view.offers i = rw offers at c.offer-item.is ∙ get_or_default view.offers i o no_offer inside in
    let number : o.number ≡ (offer_at view.offers i).number = ap (λ (o : ViewOffer). o.number) is in
    let place = c.agreement_place-place.result in
    let rests = c.loop-number.rests.items in
    let lots = c.min-lots.result in
    let within : place < length rests = omega (arith, c.agreement_place-place.ensures.within, h.size, c.requires) in
    let read : c.index.result.now ≡ get_or rests place 0 = c.index.ensures ∙ get_or_default rests place c.index.result.now 0 within in
    let written : c.index_mut.result.now ≡ get_or rests place 0 = c.index_mut.ensures.value ∙ get_or_default rests place c.index_mut.result.now 0 within in
    let lots_are : lots ≡ min (offer_at view.offers i).lots (get_or rests place 0) = c.min-lots.ensures ∙ ap (min o.lots) read ∙ ap (λ (o : ViewOffer). min o.lots (get_or rests place 0)) is in
    let t : Take = record { offer = (offer_at view.offers i).number; lots = lots } in
    let taken : c.add_take.new.takes.items ≡ above_zero (shares ++ t ∷ []) =
    c.in_ok-add_take.ensures
    ∙ ap (λ n. c.loop-number.takes.items ++ above_zero (record { offer = n; lots = lots } ∷ [])) number
    ∙ ap (λ takes. takes ++ above_zero (t ∷ [])) c.loop-number.invariant.named
    ∙ sym (filter-append (λ (t : Take). nat_lt 0 t.lots) shares (t ∷ [])) in
    record {
      shares = shares ++ t ∷ [];
      sharing = rw written (one_more_share view c.args.flow.items shares rests i place lots inside h (agreement_read view i place inside c.agreement_place-place.ensures.place) within lots_are);
      named = taken;
    }

pub of-requires : goal.of-requires
of-requires c =
    let view = c.args.view.now in
    let flow = c.args.flow.items in
    let offers = c.offers-offer-items.ensures.offers in
    let end : c.loop-number.number ≡ length view.offers = omega (arith, rw offers at c.loop-number-test.false, rw offers at c.loop-number.auto.number-end) in
    let shares = c.loop-number.invariant.shares in
    let all = subst (AreSharesBefore view flow shares) end c.loop-number.invariant.sharing.shares in
    rw c.loop-number.invariant.named (above_zero-ascend shares (shares_ascend view c.offers-offer-items.ensures.sound flow shares all))

pub returns : goal.returns
returns c =
    let view = c.args.view.now in
    let offers = c.offers-offer-items.ensures.offers in
    let end : c.loop-number.number ≡ length view.offers = omega (arith, rw offers at c.loop-number-test.false, rw offers at c.loop-number.auto.number-end) in
    let shares = c.loop-number.invariant.shares in
    record {
      shares = shares;
      all = subst (AreSharesBefore view c.args.flow.items shares) end c.loop-number.invariant.sharing.shares;
      named = c.of.ensures ∙ c.loop-number.invariant.named;
    }
