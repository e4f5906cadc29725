use Rattle.gu_positions.proofs.Words.{sym, same_key, lookup-standing}
use Rattle.gu_positions.proofs.Places.{same_key-laws, same_key-true}
use Rattle.gu_positions.proofs.positions.held_at.Goals as goal

pub returns : goal.returns
returns c = λ place there.
    lookup-standing same_key same_key-laws same_key-true c.args.rows.now.entries place c.args.row.now.number there c.len.ensures.unique _ (sym c.index.ensures)
