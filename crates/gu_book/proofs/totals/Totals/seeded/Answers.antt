use Rattle.gu_book.proofs.GivenUpLemmas.{given-nothing}
use Rattle.gu_book.proofs.totals.Totals.seeded.Goals as goal

pub invariant_of-result : goal.invariant_of-result
invariant_of-result c = record { placed = given-nothing _ _ _ c.seeded.ensures c.new.ensures c.new-2.ensures.report_of c.new-2.ensures.lots }
