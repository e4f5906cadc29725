use Rattle.gu_view.proofs.Words.{take, has_number, has_offer}
use Rattle.gu_view.proofs.MarkLemmas.{AreMarked}
use Rattle.gu_view.proofs.checker.mark_offers.Given as goal

abbrev pub invariant-loop-number : goal.invariant-loop-number
invariant-loop-number l = AreMarked l.offers (has_offer l.offers) (λ o numbers. has_number numbers o.number) (take l.number-index l.numbers) l.marks
