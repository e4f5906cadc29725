use Rattle.std.proofs.Common.{rules, nat_lt, sym}
use Rattle.std.proofs.lemmas.List.Sorted.{IsPartitionPoint-from_clause}
use Rattle.gu_terms.specs.declared.takes.Take.{Take}
use Rattle.gu_terms.proofs.Placed.{earlier_first, IsPlace-last, IsPlace-partition}
use Rattle.gu_terms.proofs.takes.place_of.Goals as goal

pub returns-in-len1-up : goal.returns-in-len1-up
returns-in-len1-up c = IsPlace-last c.args.takes.now c.args.offer c.last-item.result c.requires c.in-len1-up.len_at_least c.last-item.is (sym c.if-is_earlier.ensures)

pub returns-in_default : goal.returns-in_default
returns-in_default c = IsPlace-partition c.args.takes.now c.args.offer _ c.partition_point.ensures.bound
    (IsPartitionPoint-from_clause (λ (t : Take). nat_lt t.offer c.args.offer) c.args.takes.now _ c.partition_point.ensures.partitioned (earlier_first c.args.takes.now c.args.offer c.requires) (λ a r f' k. search rules))
