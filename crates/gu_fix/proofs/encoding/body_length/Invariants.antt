use Rattle.std.proofs.Common.{◌≡◌, ◌+◌, ◌≤◌, length}
use Rattle.gu_fix.specs.Encoding.{fields_text}
use Rattle.gu_fix.proofs.encoding.body_length.Given as goal

abbrev pub invariant-loop-field : goal.invariant-loop-field
invariant-loop-field l = record {
  short : l.total ≤ 65536;
  so_far : l.total + length (fields_text l.field-iterator) ≡ length (fields_text l.fields);
}
