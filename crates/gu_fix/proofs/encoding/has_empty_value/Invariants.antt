use Rattle.std.proofs.Common.{◌≡◌}
use Rattle.std.specs.List.{list_any}
use Rattle.gu_fix.specs.Encoding.{is_empty}
use Rattle.gu_fix.proofs.encoding.has_empty_value.Given as goal

abbrev pub invariant-loop-field : goal.invariant-loop-field
invariant-loop-field l = list_any (λ f. is_empty f.value) l.fields ≡ list_any (λ f. is_empty f.value) l.field-iterator
