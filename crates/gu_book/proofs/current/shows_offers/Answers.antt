use Rattle.gu_book.proofs.Words.{◌∙◌, ◌+◌, ◌++◌, List, ap, drop, get_or, sym, filter_map, option_to_list, Tables, Row, shown_at}
use Rattle.gu_book.proofs.CurrentLemmas.{given-next, rest-begins}
use Rattle.gu_book.proofs.current.shows_offers.Goals as goal

pub returns-in_default : goal.returns-in_default
returns-in_default c =
    let given = shown_at c.args.showing.now.0 c.args.showing.now.1 in
    let numbers = c.args.numbers.now in
    let i = c.loop-number.number-index in
    let rest = c.loop-number.rest.now in
    let more = filter_map given (drop (i + 1) numbers) in
    let same = ap (λ (s : Tables × List Row). option_to_list (shown_at s.0 s.1 (get_or numbers i 0)) ++ more) c.loop-number.invariant.same in (
      λ h. cc,
      λ whole.
          c.in_default.ensures.exactly more (rest-begins given numbers i 0 c.args.offers.now rest c.loop-number-test.true c.loop-number.invariant.begins whole ∙ sym same),
    )

pub loop-number-preserved : goal.loop-number-preserved
loop-number-preserved c =
    let given = shown_at c.args.showing.now.0 c.args.showing.now.1 in
    let numbers = c.args.numbers.now in
    let i = c.loop-number.number-index in
    let others = c.in-Some.others.now in
    let h = c.loop-number.invariant in
    let same = ap (λ (s : Tables × List Row). option_to_list (shown_at s.0 s.1 (get_or numbers i 0)) ++ others) h.same in
    record {
      same = c.behind_number.ensures.same ∙ h.same;
      begins = given-next given numbers i 0 c.args.offers.now c.loop-number.rest.now others c.loop-number-test.true h.begins (c.in-Some.ensures.begins ∙ same);
    }
