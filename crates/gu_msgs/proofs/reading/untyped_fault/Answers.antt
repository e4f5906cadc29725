use Rattle.gu_msgs.proofs.Words.{subst, sym, IsTable}
use Rattle.gu_msgs.proofs.TableLemmas.{header_table}
use Rattle.gu_msgs.proofs.reading.untyped_fault.Goals as goal

pub standings-requires-clause-table : goal.standings-requires-clause-table
standings-requires-clause-table c = subst IsTable (sym c.header_rows.ensures) header_table
