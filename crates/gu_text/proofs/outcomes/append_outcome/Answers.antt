use Rattle.std.proofs.Common.{rules}
use Rattle.gu_text.proofs.outcomes.append_outcome.Goals as goal

pub returns-in-Seen : goal.returns-in-Seen
returns-in-Seen c = search rules
