use Rattle.indexmap.specs.IndexMap.{get}
use Rattle.gu_view.proofs.MakingLemmas.{IsSeen, agreement_eq}
use Rattle.gu_view.proofs.making.first_other_path.Given as goal

abbrev pub invariant-loop-offer : goal.invariant-loop-offer
invariant-loop-offer l = IsSeen l.offers l.offer-index (get agreement_eq l.paths)
