use Rattle.gu_positions.proofs.Words.{updates-with_value_at, same_key, set_value_at-standing}
use Rattle.gu_positions.proofs.Places.{same_key-laws, same_key-true}
use Rattle.gu_positions.proofs.positions.write.Goals as goal

pub returns-clause-entries : goal.returns-clause-entries
returns-clause-entries c = λ place there.
    set_value_at-standing same_key same_key-laws same_key-true c.args.rows.now.entries place c.args.row.now.number there c.len.ensures.unique c.args.holding

pub returns-clause-updates : goal.returns-clause-updates
returns-clause-updates c = λ place there.
    updates-with_value_at c.args.rows.now c.args.row.now.number c.args.holding same_key-laws c.len.ensures.unique place there.value there.here
