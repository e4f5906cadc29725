use Rattle.std.proofs.Common.{rules}
use Rattle.gu_ref.proofs.reference.Reference.between.Goals as goal

pub returns : goal.returns
returns c = search rules
