use Rattle.std.proofs.Common.{rules}
use Rattle.gu_text.proofs.sheet_line.path_said.Goals as goal

pub returns : goal.returns
returns c = search rules
