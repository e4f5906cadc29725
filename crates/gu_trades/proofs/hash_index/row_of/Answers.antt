use Rattle.gu_trades.proofs.RowCounts.{mask-rows}
use Rattle.gu_trades.proofs.hash_index.row_of.Goals as goal

pub returns : goal.returns
returns c = mask-rows c.args.number c.args.rows c.requires
