use Rattle.gu_world.proofs.Words.{◌≡◌, ◌++◌, take, outcomes_of}
use Rattle.gu_world.proofs.ReceiptLemmas.{receipts_by}
use Rattle.gu_world.proofs.outcomes.append_receipts.Given as goal

abbrev pub invariant-loop-place : goal.invariant-loop-place
invariant-loop-place l = l.receipts.items ≡ l.fn.receipts.items ++ receipts_by l.history (take l.place (outcomes_of l.series))
