use Rattle.std.proofs.Common.{◌≡◌, ◌∙◌, ◌++◌, ◌∷◌, [], List, ℕ, ap, arith, length}
use Rattle.gu_fix.specs.Encoding.{field_text}
use Rattle.gu_fix.specs.Spans.{fields_in}
use Rattle.gu_fix.specs.TagValue.{TagValue, tag_value}
use Rattle.gu_fix.specs.declared.field.Span.{Span}
use Rattle.gu_fix.proofs.SpanLemmas.{LiesAfter, fields_in-text, spelled-text}
use Rattle.gu_fix.proofs.body_text.BodyText.push.Goals as goal

had : (c : goal.After-push_reserved) → c.replace.result.items ≡ c.self.inside.text.items
had c = rw c.replace.ensures.value c.in_ok-reserve-2.ensures.items

lies : (c : goal.After-push_reserved) → LiesAfter c.self.inside.text.items c.args.value.now c.args.tag c.new-2.result
lies c = record {
  tagged = c.new-2.ensures.tag;
  begins = omega (arith, c.new-2.ensures.start, c.with_field-text.ensures.start, ap length (had c));
  sized = c.new-2.ensures.len;
}

text_is : (c : goal.After-push_reserved) → c.with_field-text.result.0.items ≡ c.self.inside.text.items ++ field_text (tag_value c.args.tag c.args.value.now)
text_is c = c.with_field-text.ensures.text ∙ ap (λ (t : List ℕ). t ++ field_text (tag_value c.args.tag c.args.value.now)) (had c)

one_more : (c : goal.After-push_reserved) → c.push_reserved.new.self.items ≡ c.self.inside.spans.items ++ c.new-2.result ∷ []
one_more c = c.push_reserved.ensures.items ∙ ap (λ (t : List Span). t ++ c.new-2.result ∷ []) c.in_ok-reserve.ensures.items

pub invariant_of-self-2 : goal.invariant_of-self-2
invariant_of-self-2 c =
    let spelled = spelled-text c.self.inside.text.items c.args.value.now c.args.tag c.self.inside.spans.items c.new-2.result c.self.invariant (lies c) in
    rw (one_more c, text_is c) spelled

pub returns-clause-ok : goal.returns-clause-ok
returns-clause-ok c =
    let bytes = c.self.inside.text.items in
    let spans = c.self.inside.spans.items in
    let value = c.args.value.now in
    ap (λ (t : List ℕ). fields_in t c.push_reserved.new.self.items) (text_is c)
    ∙ ap (fields_in (bytes ++ field_text (tag_value c.args.tag value))) (one_more c)
    ∙ fields_in-text bytes value c.args.tag spans c.new-2.result c.self.invariant.within (lies c)
    ∙ ap (λ (t : List TagValue). t ++ tag_value c.args.tag value ∷ []) c.self.view_is
