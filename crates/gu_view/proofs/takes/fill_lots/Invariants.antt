use Rattle.gu_view.proofs.TakesLemmas.{IsFilled}
use Rattle.gu_view.proofs.takes.fill_lots.Given as goal

abbrev pub invariant-loop-place : goal.invariant-loop-place
invariant-loop-place l = IsFilled l.offers l.fn.takes l.place l.taken l.rest
