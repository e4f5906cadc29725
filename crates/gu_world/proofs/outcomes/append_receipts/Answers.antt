use Rattle.gu_world.proofs.Words.{◌++◌, ◌∙◌, List, ap, option_to_list, Receipt, receipt_of, outcomes_of}
use Rattle.gu_world.proofs.ReceiptLemmas.{receipts_after-more}
use Rattle.gu_world.proofs.outcomes.append_receipts.Goals as goal

pub loop-place-preserved : goal.loop-place-preserved
loop-place-preserved c =
    c.in_ok-append_receipt.ensures
    ∙ ap (λ (rs : List Receipt). rs ++ option_to_list (receipt_of c.in_ok-outcome.field-0)) c.loop-place.invariant
    ∙ receipts_after-more c.args.history.now (outcomes_of c.args.series.now) c.loop-place.place c.at.result c.in_ok-outcome.field-0 c.args.receipts.now.items c.at.ensures c.in_ok-outcome.ensures
