use Rattle.std.proofs.Common.{◌≡◌, ◌<◌, ◌+◌, ◌++◌, ◌∷◌, [], ◌∙◌, ℕ, List, take, sym, ap, arith}
use Rattle.std.specs.Prelude.{codes}
use Rattle.std.specs.Fmt.{decimal}
use Rattle.std.specs.List.{flat_map}
use Rattle.std.proofs.lemmas.List.{flat_map_more, take_more}
use Rattle.gu_terms.specs.Takes.{lots_of}
use Rattle.gu_view.specs.declared.view.ViewOffer.{ViewOffer}
use Rattle.gu_text.specs.SheetText.{take_line}
use Rattle.gu_text.specs.Texts.{line_of}
use Rattle.gu_text.proofs.TakesLemmas.{earlier_related, held_up_to}
use Rattle.gu_text.proofs.sheet_writing.append_takes.Goals as goal

pub loop-offer-preserved : goal.loop-offer-preserved
loop-offer-preserved c =
    let takes = c.args.takes.now in
    let offers = c.args.offers.now in
    let i = c.loop-offer.offer-index in
    let o = c.offer-item.result in
    let before = earlier_related (λ (a b : ViewOffer). a.number < b.number) offers i o c.requires.offers c.loop-offer-test.true c.offer-item.is in
    let lots : c.lots_in_front.result ≡ lots_of takes o.number = c.lots_in_front.ensures ∙ c.from_offer-rest.ensures.same o.number (omega arith) ∙ c.loop-offer.invariant.later o.number before in
    let next : take (i + 1) offers ≡ take i offers ++ o ∷ [] = take_more offers i o c.loop-offer-test.true ∙ ap (λ (x : ViewOffer). take i offers ++ x ∷ []) (sym c.offer-item.is) in
    record {
      text = c.in_ok-append_take.ensures
          ∙ ap (λ (n : ℕ). c.loop-offer.output.items ++ line_of (codes "TAKE" ∷ decimal o.number ∷ decimal n ∷ [])) lots
          ∙ ap (λ (text : List ℕ). text ++ take_line takes o) c.loop-offer.invariant.text
          ∙ flat_map_more (take_line takes) c.args.output.now.items (take i offers) o
          ∙ ap (λ (xs : List ViewOffer). c.args.output.now.items ++ flat_map (take_line takes) xs) (sym next);
      ascending = c.from_offer-rest.ensures.ascending;
      later = λ number held.
          let both = held_up_to (λ (x : ViewOffer). x.number < number) offers i o c.loop-offer-test.true c.offer-item.is held in
          c.from_offer-rest.ensures.same number (omega (arith, both.1)) ∙ c.loop-offer.invariant.later number both.0;
    }
