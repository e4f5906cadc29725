use Rattle.std.proofs.Common.{◌≡◌}
use Rattle.std.specs.List.{list_all}
use Rattle.gu_fix.specs.Encoding.{is_body_tag}
use Rattle.gu_fix.proofs.encoding.has_free_tags.Given as goal

abbrev pub invariant-loop-field : goal.invariant-loop-field
invariant-loop-field l = list_all (λ f. is_body_tag f.tag) l.fields ≡ list_all (λ f. is_body_tag f.tag) l.field-iterator
