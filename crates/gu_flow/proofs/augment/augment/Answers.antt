use Rattle.std.proofs.Common.{rules}
use Rattle.gu_flow.proofs.augment.augment.Goals as goal

pub push_along-requires-clause-room : goal.push_along-requires-clause-room
push_along-requires-clause-room c = search rules
