use Rattle.std.proofs.Common.{rules}
use Rattle.gu_limits.proofs.table.put.Goals as goal

pub returns-clause-put : goal.returns-clause-put
returns-clause-put c = search rules
