use Rattle.gu_book.proofs.Words.{◌≡◌, ◌++◌, ◌∙◌, List, ap, get_or, sym, take, filter_map, option_to_list, get_or_default, Tables, Row, ViewOffer, shown_at}
use Rattle.gu_book.proofs.LimitLemmas.{filter_map_next}
use Rattle.gu_book.proofs.views.offers_of.Goals as goal

pub loop-number-preserved : goal.loop-number-preserved
loop-number-preserved c =
    let given = shown_at c.args.reference.now c.args.totals.now.offers in
    let numbers = c.args.numbers.now in
    let number = get_or numbers c.loop-number.number-index 0 in
    let so_far = filter_map given (take c.loop-number.number-index numbers) in
    let same = c.loop-number.invariant.same in
    let shown : c.offer.result ≡ given number = c.offer.ensures.shown ∙ ap (λ (s : Tables × List Row). shown_at s.0 s.1 number) same in
    record {
      same = c.offer.ensures.same ∙ same;
      so_far = c.in_ok-append_offer.ensures
          ∙ ap (λ (offers : List ViewOffer). offers ++ option_to_list c.offer.result) c.loop-number.invariant.so_far
          ∙ ap (λ (offer : List ViewOffer). so_far ++ offer) (ap option_to_list shown)
          ∙ sym (filter_map_next given numbers c.loop-number.number-index number c.loop-number-test.true (get_or_default numbers c.loop-number.number-index 0 number c.loop-number-test.true));
    }
