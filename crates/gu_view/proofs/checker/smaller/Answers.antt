use Rattle.gu_view.proofs.Words.{rules, nat_lt, ltb-true, ltb-false, ViewOffer}
use Rattle.std.proofs.lemmas.List.Sorted.{IsPartitionPoint-from_clause}
use Rattle.gu_view.proofs.MarkLemmas.{smaller_first}
use Rattle.gu_view.proofs.checker.smaller.Goals as goal

pub returns-clause-before : goal.returns-clause-before
returns-clause-before c k d low high =
    ltb-true _ _ ((IsPartitionPoint-from_clause (λ (o : ViewOffer). nat_lt o.number c.args.number) c.args.offers.now _ c.partition_point.ensures.partitioned (smaller_first c.args.offers.now c.args.number c.requires) (λ a r f' k. search rules)).0 k d low high)

pub returns-clause-behind : goal.returns-clause-behind
returns-clause-behind c k d low high =
    ltb-false _ _ ((IsPartitionPoint-from_clause (λ (o : ViewOffer). nat_lt o.number c.args.number) c.args.offers.now _ c.partition_point.ensures.partitioned (smaller_first c.args.offers.now c.args.number c.requires) (λ a r f' k. search rules)).1 k d low high)
