use Rattle.gu_world.proofs.Words.{◌≡◌, take, all_outcomes}
use Rattle.gu_world.proofs.ReceiptLemmas.{receipts_by}
use Rattle.gu_world.proofs.outcomes.Outcomes.receipts.Given as goal

abbrev pub invariant-loop-series : goal.invariant-loop-series
invariant-loop-series l = l.receipts.items ≡ receipts_by l.self-inside.history.now (all_outcomes (take l.series-index l.series-items))
