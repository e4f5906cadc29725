use Rattle.std.proofs.Common.{◌≡◌, ◌≤◌, ◌<◌, ◌-◌, ◌+◌, ◌++◌, ◌∷◌, [], None, ℕ, List, length, take, drop, get_or, ap, sym, subst, ◌∙◌, append_assoc, arith}
use Rattle.std.proofs.lemmas.List.{drop-drop, get_or-drop, length-append, length-drop, length-take}
use Rattle.gu_fix.specs.WholeMessage.{soh}
use Rattle.gu_fix.specs.Fields.{IsField, equals}
use Rattle.gu_fix.specs.Spans.{AreWithin, fields_in}
use Rattle.gu_fix.specs.TagValue.{TagValue, tag_value}
use Rattle.gu_fix.specs.declared.field.Span.{Span}
use Rattle.gu_fix.proofs.Lengths.{split_at}
use Rattle.gu_fix.proofs.PartsRead.{EndsWithSoh, ReadsOn, nothing_read, all_fields, field_read, fault_read, whole_ends, whole_long, ends-drop}
use Rattle.gu_fix.proofs.SpanLemmas.{value_lies, within-push, fields_in-one_more}
use Rattle.gu_fix.proofs.splitting.spans_of.Goals as goal

pub parts-init : goal.parts-init
parts-init c =
    let grown = c.in_ok-reserve.ensures in
    let none : c.reserve.new.self.items ≡ [] = grown.items ∙ c.requires.none in
    record {
      reads_on = subst (λ (t : List Span). ReadsOn c.args.bytes.now c.args.bytes.now (fields_in c.args.bytes.now t) None) (sym none) (nothing_read c.args.bytes.now);
      within = subst (AreWithin c.args.bytes.now) (sym none) tt;
      ends = whole_ends c.args.bytes.now c.requires.whole;
      short = omega arith;
      few = omega (arith, grown.len, ap length c.requires.none);
      room = omega (arith, grown.ok, grown.len, ap length c.requires.none);
    }

pub slice_bounds-read_part-count : goal.slice_bounds-read_part-count
slice_bounds-read_part-count c =
    c.in-Some.ensures.low

pub slice_bounds-read_part-start : goal.slice_bounds-read_part-start
slice_bounds-read_part-start c =
    let found = c.in-Some.ensures in
    omega (arith, found.low, found.high)

pub slice_bounds-read_part-end : goal.slice_bounds-read_part-end
slice_bounds-read_part-end c =
    let found = c.in-Some.ensures in
    omega (arith, found.low, found.high)

pub overflow_sub-bytes-in-Ok : goal.overflow_sub-bytes-in-Ok
overflow_sub-bytes-in-Ok c =
    let found = c.in-Some.ensures in
    omega (arith, found.high)

-- a field and its SOH have at least four bytes
field_is_long : (bytes : List ℕ) (start end tag : ℕ) (value : List ℕ) → start ≤ end → end < length bytes → IsField (tag_value tag value) (take (end - start) (drop start bytes)) → start + 3 ≤ end
field_is_long bytes start end tag value low high field =
    let part = field.has_tag in
    omega (arith, part.is_tag.some, field.some, ap length part.parts, length-append part.text (equals ∷ value), length-take (end - start) (drop start bytes), length-drop start bytes)

pub push_reserved-requires : goal.push_reserved-requires
push_reserved-requires c =
    let bytes = c.args.bytes.now in
    let inv = c.parts.invariant in
    let found = c.in-Some.ensures in
    omega (arith, inv.few, inv.room, found.low, found.high, field_is_long bytes c.parts.start c.in-Some.end c.in-Ok.field.tag c.in-Ok.field.value.now found.low found.high c.in-Ok.ensures)

pub span_of-requires : goal.span_of-requires
span_of-requires c =
    let bytes = c.args.bytes.now in
    let found = c.in-Some.ensures in
    let part = c.in-Ok.ensures.has_tag in
    let size = ap length part.parts in
    let value = c.in-Ok.field.value.now in
    omega (arith, found.low, found.high, size, length-take (c.in-Some.end - c.parts.start) (drop c.parts.start bytes), length-append part.text (equals ∷ value), length-drop c.parts.start bytes)

pub parts-preserved : goal.parts-preserved
parts-preserved c =
    let bytes = c.args.bytes.now in
    let start = c.parts.start in
    let rest = drop start bytes in
    let inv = c.parts.invariant in
    let found = c.in-Some.ensures in
    let end = c.in-Some.end - start in
    let high : end + 1 ≤ length rest = omega (arith, found.low, found.high, length-drop start bytes) in
    let after = drop (end + 1) rest in
    let next : after ≡ drop (c.in-Some.end + 1) bytes = drop-drop (end + 1) start bytes ∙ ap (λ k. drop k bytes) (omega (arith, found.low)) in
    let left : length after ≡ length bytes - c.in-Some.end - 1 = omega (arith, found.low, found.high, length-drop (end + 1) rest, length-drop start bytes) in
    let spans = c.parts.spans.items in
    let at : start + end ≡ c.in-Some.end = omega (arith, found.low) in
    let parts = split_at rest end soh (omega (arith, high)) (get_or-drop start bytes end 0 ∙ ap (λ k. get_or bytes k 0) at ∙ found.there) in
    let value = c.in-Ok.field.value.now in
    let field = tag_value c.in-Ok.field.tag value in
    let tagged = c.in-Ok.ensures.has_tag in
    let front = tagged.text ++ equals ∷ [] in
    let whole : rest ≡ (front ++ value) ++ soh ∷ after = parts ∙ ap (λ (t : List ℕ). t ++ soh ∷ after) (tagged.parts ∙ sym (append_assoc tagged.text (equals ∷ []) value)) in
    let lies = c.span_of.ensures in
    let span = c.span_of.result in
    let short : length rest ≤ length bytes = omega (arith, length-drop start bytes) in
    let place : start ≡ length bytes - length rest = omega (arith, inv.short, length-drop start bytes) in
    let there = value_lies bytes rest front value after c.in-Ok.field.tag span short (ap (λ k. drop k bytes) place) whole
    (record { tagged = lies.tagged; sized = lies.sized; ends = omega (arith, lies.ends, left) }) in
    let more : c.push_reserved.new.self.items ≡ spans ++ span ∷ [] = c.push_reserved.ensures.items in
    let fields : fields_in bytes c.push_reserved.new.self.items ≡ fields_in bytes spans ++ field ∷ [] = ap (fields_in bytes) more ∙ fields_in-one_more bytes spans span field there.1 in
    let read = field_read bytes rest (take end rest) after (fields_in bytes spans) c.parts.fault field inv.reads_on parts found.none c.in-Ok.ensures in
    record {
      reads_on = subst (λ (t : List ℕ). ReadsOn bytes t (fields_in bytes c.push_reserved.new.self.items) c.parts.fault) next (subst (λ (t : List TagValue). ReadsOn bytes after t c.parts.fault) (sym fields) read);
      within = subst (AreWithin bytes) (sym more) (within-push bytes spans span inv.within there.0);
      ends = subst EndsWithSoh next (ends-drop rest (end + 1) inv.ends);
      short = omega (arith, found.high);
      few = omega (arith, inv.few, found.low, c.push_reserved.ensures.len, field_is_long bytes start c.in-Some.end c.in-Ok.field.tag value found.low found.high c.in-Ok.ensures);
      room = omega (arith, inv.room, c.push_reserved.ensures.capacity);
    }

pub parts-preserved-in-Err : goal.parts-preserved-in-Err
parts-preserved-in-Err c =
    let bytes = c.args.bytes.now in
    let start = c.parts.start in
    let rest = drop start bytes in
    let fields = fields_in bytes c.parts.spans.items in
    let inv = c.parts.invariant in
    let found = c.in-Some.ensures in
    let end = c.in-Some.end - start in
    let high : end + 1 ≤ length rest = omega (arith, found.low, found.high, length-drop start bytes) in
    let next : drop (end + 1) rest ≡ drop (c.in-Some.end + 1) bytes = drop-drop (end + 1) start bytes ∙ ap (λ k. drop k bytes) (omega (arith, found.low)) in
    let at : start + end ≡ c.in-Some.end = omega (arith, found.low) in
    let parts = split_at rest end soh (omega (arith, high)) (get_or-drop start bytes end 0 ∙ ap (λ k. get_or bytes k 0) at ∙ found.there) in
    let read = fault_read bytes rest (take end rest) (drop (end + 1) rest) fields c.parts.fault c.in-Err.found inv.reads_on parts found.none c.in-Err.ensures in
    record {
      reads_on = subst (λ (t : List ℕ). ReadsOn bytes t fields c.first_of-fault.result) next (subst (λ o. ReadsOn bytes (drop (end + 1) rest) fields o) (sym c.first_of-fault.ensures) read);
      within = inv.within;
      ends = subst EndsWithSoh next (ends-drop rest (end + 1) inv.ends);
      short = omega (arith, found.high);
      few = omega (arith, inv.few, found.low);
      room = inv.room;
    }

pub returns-clause-fields : goal.returns-clause-fields
returns-clause-fields c =
    all_fields c.args.bytes.now (drop c.parts.start c.args.bytes.now) (fields_in c.args.bytes.now c.parts.spans.items) c.parts.fault c.parts.invariant.reads_on c.parts.invariant.ends c.in_default.ensures

pub next_soh-requires : goal.next_soh-requires
next_soh-requires c = (whole_long c.args.bytes.now c.requires.whole, c.parts.invariant.short)
