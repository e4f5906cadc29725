use Rattle.std.proofs.Common.{◌∙◌}
use Rattle.gu_keeping.proofs.ChainLemmas.{count_of}
use Rattle.gu_keeping.proofs.keeper.Keeper.count.Goals as goal

pub returns : goal.returns
returns g c = c.count.ensures ∙ count_of _ _ c.args.self.now.chained
