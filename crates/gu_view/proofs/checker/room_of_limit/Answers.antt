use Rattle.std.proofs.Common.{rules}
use Rattle.gu_view.proofs.checker.room_of_limit.Goals as goal

pub returns-then-is_cut : goal.returns-then-is_cut
returns-then-is_cut c = search rules
