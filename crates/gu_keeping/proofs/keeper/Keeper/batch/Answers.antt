use Rattle.std.proofs.Common.{arith}
use Rattle.gu_keeping.proofs.Keepers.{front_length}
use Rattle.gu_keeping.proofs.keeper.Keeper.batch.Goals as goal

pub of-requires : goal.of-requires
of-requires g c =
    let self = c.args.self.now in
    omega (arith, front_length self.chain self.front self.waiting.items self.parts self.chained, self.few, c.deref.ensures.len, self.waiting.ok.0)
