use Rattle.gu_world.proofs.RunLemmas.{kept-beginning}
use Rattle.gu_world.proofs.world.World.seeded.Goals as goal

pub invariant_of-result : goal.invariant_of-result
invariant_of-result c = kept-beginning c.args.reference c.seeded.result c.new.result c.new-2.result.items c.seeded.ensures c.new.ensures c.new-2.ensures
