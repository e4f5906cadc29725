use Rattle.gu_msgs.proofs.Words.{subst, sym, IsTable}
use Rattle.gu_msgs.proofs.TableLemmas.{outer_table}
use Rattle.gu_msgs.proofs.shape.typed_fault.Goals as goal

pub table_fault-requires-clause-table : goal.table_fault-requires-clause-table
table_fault-requires-clause-table c = subst IsTable (sym c.outer_rows.ensures) (outer_table c.args.msg_type)
