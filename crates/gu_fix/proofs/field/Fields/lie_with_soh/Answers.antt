use Rattle.std.proofs.Common.{◌≡◌, ◌∙◌, List, ap, sym, subst, false}
use Rattle.std.specs.List.{list_any}
use Rattle.gu_fix.specs.TagValue.{TagValue}
use Rattle.gu_fix.specs.Encoding.{has_soh}
use Rattle.gu_fix.proofs.SpanLemmas.{values_without}
use Rattle.gu_fix.proofs.field.Fields.lie_with_soh.Goals as goal

pub returns : goal.returns
returns c = λ none.
    (let bytes = c.self.inside.bytes.items in
    let without : has_soh bytes ≡ false = sym (ap has_soh c.deref.ensures.value) ∙ sym c.contains.ensures.value ∙ none in
    subst (λ (t : List TagValue). list_any (λ f. has_soh f.value) t ≡ false) c.self.view_is (values_without bytes c.self.inside.spans.items without))
