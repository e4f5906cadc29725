use Rattle.std.proofs.Common.{◌≡◌, ◌++◌, List, ℕ}
use Rattle.gu_fix.specs.Encoding.{fields_text}
use Rattle.gu_fix.proofs.encoding.push_fields.Given as goal

abbrev pub invariant-loop-field : goal.invariant-loop-field
invariant-loop-field l = record {
  so_far : l.out.items ++ fields_text l.field-iterator ≡ l.initial.out.items ++ fields_text l.fields;
  front : (text : List ℕ) × (l.out.items ≡ l.initial.out.items ++ text);
}
