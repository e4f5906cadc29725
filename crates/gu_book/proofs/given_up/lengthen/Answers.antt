use Rattle.gu_book.proofs.Words.{◌++◌, ◌∙◌, ap}
use Rattle.std.specs.Prelude.{replicate, slice_index}
use Rattle.gu_book.proofs.GivenUpLemmas.{index-zeros}
use Rattle.gu_book.proofs.given_up.lengthen.Goals as goal

pub returns-clause-same : goal.returns-clause-same
returns-clause-same c number =
    ap (λ l. slice_index l number) (c.push_copies.ensures ∙ ap (λ l. l ++ replicate c.saturating_sub-more.result 0) c.in_ok-reserve.ensures.items)
    ∙ index-zeros c.args.lots.now.items c.saturating_sub-more.result number
