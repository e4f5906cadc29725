use Rattle.gu_world.proofs.Words.{◌++◌, ◌∙◌, List, ap, get_or, length, subst, sym, Receipt, AreNumbered, IsNumbered, outcomes_of, KeptOutcome}
use Rattle.gu_world.specs.declared.series.Series.TheVariants.{Asked}
use Rattle.gu_world.proofs.ReceiptLemmas.{receipts_by, receipts_by-series}
use Rattle.gu_world.proofs.SeriesLemmas.{All-part}
use Rattle.gu_world.proofs.outcomes.Outcomes.receipts.Goals as goal

pub append_receipts-requires : goal.append_receipts-requires
append_receipts-requires c =
    let count = length c.self.inside.history.now in
    let list = c.list-series-items in
    All-part (IsNumbered count) list.result.now c.loop-series.series-index (Asked 0 0)
    (subst (λ (outcomes : List KeptOutcome). AreNumbered count outcomes) (sym list.ensures) c.self.invariant) c.loop-series-test.true

pub loop-series-preserved : goal.loop-series-preserved
loop-series-preserved c =
    let history = c.self.inside.history.now in
    let list = c.list-series-items.result.now in
    let i = c.loop-series.series-index in
    c.in_ok-append_receipts.ensures
    ∙ ap (λ (rs : List Receipt). rs ++ receipts_by history (outcomes_of (get_or list i (Asked 0 0)))) c.loop-series.invariant
    ∙ sym (receipts_by-series history list i (Asked 0 0) c.loop-series-test.true)
