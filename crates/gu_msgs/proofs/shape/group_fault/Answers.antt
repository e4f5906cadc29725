use Rattle.gu_msgs.proofs.Words.{subst, sym, IsTable}
use Rattle.gu_msgs.proofs.TableLemmas.{entry_table}
use Rattle.gu_msgs.proofs.shape.group_fault.Goals as goal

pub counted_fault-requires-clause-table : goal.counted_fault-requires-clause-table
counted_fault-requires-clause-table c = subst IsTable (sym c.entry_rows-rows.ensures) (entry_table c.args.counter)
