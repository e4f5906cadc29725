use Rattle.gu_ref.proofs.ReadSoFar.{IsReadSoFar, IsSetUp}
use Rattle.gu_ref.proofs.reading.read_rows.Given as goal

abbrev pub invariant-loop-fields : goal.invariant-loop-fields
invariant-loop-fields g l = record {
  setup : IsSetUp l.fields-iterator.rdr l.fields-iterator.left;
  so_far : IsReadSoFar g.R.Read.remaining l.fields-iterator.rdr (g.R.Read.remaining l.fn.reader) l.reference;
}
