use Rattle.std.proofs.Common.{rules}
use Rattle.gu_limits.proofs.paths.through.Goals as goal

pub returns-clause-keys : goal.returns-clause-keys
returns-clause-keys c = search rules
