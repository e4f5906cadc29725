use Rattle.std.proofs.Common.{◌≡◌, ◌∙◌, ◌++◌, ◌∷◌, [], List, ℕ, ap, arith, length}
use Rattle.gu_fix.specs.TagValue.{TagValue, tag_value}
use Rattle.gu_fix.specs.Spans.{fields_in}
use Rattle.gu_fix.specs.declared.field.Span.{Span}
use Rattle.gu_fix.proofs.SpanLemmas.{fields_in-push}
use Rattle.gu_fix.proofs.field.Fields.push.Goals as goal

pub returns-clause-ok : goal.returns-clause-ok
returns-clause-ok c =
    let bytes = c.self.inside.bytes.items in
    let spans = c.self.inside.spans.items in
    let value = c.args.value.now in
    let span : Span = record { tag = c.args.tag; start = c.len-start.result; len = length value } in
    let start : c.len-start.result ≡ length bytes = omega (arith, c.len-start.ensures, c.self.inside.bytes.ok.0) in
    let longer : c.extend_from_slice.new.self.items ≡ bytes ++ value = c.in_ok-extend_from_slice.ensures.items in
    let one_more : c.push_reserved.new.self.items ≡ spans ++ span ∷ [] = c.push_reserved.ensures.items ∙ ap (λ (t : List Span). t ++ span ∷ []) c.in_ok-reserve.ensures.items in
    ap (λ (t : List ℕ). fields_in t c.push_reserved.new.self.items) longer
    ∙ ap (fields_in (bytes ++ value)) one_more
    ∙ fields_in-push bytes value spans span c.self.invariant start (omega arith)
    ∙ ap (λ (t : List TagValue). t ++ tag_value c.args.tag value ∷ []) c.self.view_is
