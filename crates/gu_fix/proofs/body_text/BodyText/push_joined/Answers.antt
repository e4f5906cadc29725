use Rattle.std.proofs.Common.{◌≡◌, ◌∙◌, ◌++◌, ◌∷◌, [], List, ℕ, ap, arith, length}
use Rattle.std.proofs.lemmas.List.{length-append}
use Rattle.std.specs.Fmt.{decimal}
use Rattle.std.specs.List.{flat_map}
use Rattle.gu_fix.specs.Encoding.{field_text}
use Rattle.gu_fix.specs.Spans.{fields_in}
use Rattle.gu_fix.specs.TagValue.{TagValue, tag_value}
use Rattle.gu_fix.specs.declared.field.Span.{Span}
use Rattle.gu_fix.proofs.SpanLemmas.{LiesAfter, fields_in-text, spelled-text}
use Rattle.gu_fix.proofs.body_text.BodyText.push_joined.Goals as goal

abbrev value_of : goal.After-push_reserved → List ℕ
value_of c = flat_map (λ part. part.now) c.args.parts.now

lies : (c : goal.After-push_reserved) → LiesAfter c.self.inside.text.items (value_of c) c.args.tag c.new.result
lies c =
    let bytes = c.self.inside.text.items in
    let digits = decimal c.args.tag in
    let value = value_of c in
    let longer = ap length c.in-Ok.ensures.ok in
    record {
      tagged = c.new.ensures.tag;
      begins = omega (arith, c.new.ensures.start, c.in-Ok.ensures.start);
      sized = omega (
        arith,
        c.new.ensures.len,
        c.len.ensures,
        c.push_parts.new.text.ok.0,
        c.in-Ok.ensures.start,
        longer,
        length-append bytes (field_text (tag_value c.args.tag value)),
        length-append (digits ++ 61 ∷ value) (1 ∷ []),
        length-append digits (61 ∷ value),
      );
    }

one_more : (c : goal.After-push_reserved) → c.push_reserved.new.self.items ≡ c.self.inside.spans.items ++ c.new.result ∷ []
one_more c = c.push_reserved.ensures.items ∙ ap (λ (t : List Span). t ++ c.new.result ∷ []) c.in_ok-reserve.ensures.items

pub invariant_of-self-2 : goal.invariant_of-self-2
invariant_of-self-2 c =
    let spelled = spelled-text c.self.inside.text.items (value_of c) c.args.tag c.self.inside.spans.items c.new.result c.self.invariant (lies c) in
    rw (one_more c, c.in-Ok.ensures.ok) spelled

pub returns-clause-ok : goal.returns-clause-ok
returns-clause-ok c =
    let bytes = c.self.inside.text.items in
    let spans = c.self.inside.spans.items in
    ap (λ (t : List ℕ). fields_in t c.push_reserved.new.self.items) c.in-Ok.ensures.ok
    ∙ ap (fields_in (bytes ++ field_text (tag_value c.args.tag (value_of c)))) (one_more c)
    ∙ fields_in-text bytes (value_of c) c.args.tag spans c.new.result c.self.invariant.within (lies c)
    ∙ ap (λ (t : List TagValue). t ++ tag_value c.args.tag (value_of c) ∷ []) c.self.view_is
