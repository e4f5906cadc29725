use Rattle.std.proofs.Common.{rules}
use Rattle.gu_terms.proofs.history.History.entry.Goals as goal

pub returns : goal.returns
returns c = search rules
