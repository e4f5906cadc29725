use Rattle.std.proofs.Common.{rules}
use Rattle.gu_terms.proofs.Placed.{insert-place, insert_ascends}
use Rattle.gu_terms.proofs.takes.Takes.add.Goals as goal

pub invariant_of-self-2 : goal.invariant_of-self-2
invariant_of-self-2 c =
    rw c.in_ok-insert.ensures.items (insert_ascends c.self.inside.list.items _ _ (search rules) (search rules) c.self.invariant)

pub returns-clause-takes : goal.returns-clause-takes
returns-clause-takes c = rw (c.in_ok-insert.ensures.items, ← c.self.view_is) (insert-place c.self.inside.list.items _ _ (search rules) (search rules))
