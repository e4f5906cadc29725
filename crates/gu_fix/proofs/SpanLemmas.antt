-- Values in a buffer that grows.
use Rattle.std.proofs.Common.{◌==◌, ◌||◌, Bool, true, false, zero, suc, ◌≡◌, ◌≤◌, ◌-◌, ◌+◌, ℕ, List, [], ◌∷◌, ◌++◌, length, take, drop, refl, sym, ap, ◌∙◌, append_assoc, arith}
use Rattle.std.proofs.lemmas.List.{take-append-drop, take-append-le, drop-append-le, drop-drop, length-append, length-drop, drop_at, take_at, take_all, map-append, flat_map_more}
use Rattle.std.specs.Fmt.{decimal}
use Rattle.std.specs.List.{list_any}
use Rattle.gu_fix.specs.Encoding.{field_text, fields_text, has_soh}
use Rattle.gu_fix.specs.TagValue.{TagValue, tag_value}
use Rattle.gu_fix.specs.WholeMessage.{soh}
use Rattle.gu_fix.specs.Spans.{AreSpelled, IsWithin, LiesBefore, field_in, AreWithin, fields_in}
use Rattle.gu_fix.specs.declared.field.Span.{Span}

-- appending changes no value
pub field_in-append : (bytes more : List ℕ) (span : Span) → IsWithin bytes span → field_in (bytes ++ more) span ≡ field_in bytes span
field_in-append bytes more span within =
    ap (λ (t : List ℕ). tag_value span.tag t) (
    ap (take span.len) (drop-append-le span.start bytes more (omega arith))
    ∙ take-append-le span.len (drop span.start bytes) more (omega (arith, length-drop span.start bytes))
    )

-- nor several values
pub fields_in-append : (bytes more : List ℕ) (spans : List Span) → AreWithin bytes spans → fields_in (bytes ++ more) spans ≡ fields_in bytes spans
fields_in-append bytes more [] within = refl
fields_in-append bytes more (span ∷ spans) within =
    let first = field_in-append bytes more span within.0 in
    let others = fields_in-append bytes more spans within.1 in
    cc

-- and each still lies within the buffer
pub within-append : (bytes more : List ℕ) (spans : List Span) → AreWithin bytes spans → AreWithin (bytes ++ more) spans
within-append bytes more [] within = tt
within-append bytes more (span ∷ spans) within = (omega (arith, within.0, length-append bytes more), within-append bytes more spans within.1)

-- a value at the end of the buffer
pub field_in-end : (bytes value : List ℕ) (span : Span) → span.start ≡ length bytes → span.len ≡ length value → field_in (bytes ++ value) span ≡ tag_value span.tag value
field_in-end bytes value span start len =
    ap (λ (t : List ℕ). tag_value span.tag t) (ap (take span.len) (drop_at bytes value span.start (sym start)) ∙ take_all span.len value (omega arith))

-- one more field
pub fields_in-push : (bytes value : List ℕ) (spans : List Span) (span : Span) → AreWithin bytes spans → span.start ≡ length bytes → span.len ≡ length value
    → fields_in (bytes ++ value) (spans ++ span ∷ []) ≡ fields_in bytes spans ++ tag_value span.tag value ∷ []
fields_in-push bytes value spans span within start len =
    map-append (field_in (bytes ++ value)) spans (span ∷ [])
    ∙ ap (λ (t : List TagValue). t ++ field_in (bytes ++ value) span ∷ []) (fields_in-append bytes value spans within)
    ∙ ap (λ (f : TagValue). fields_in bytes spans ++ f ∷ []) (field_in-end bytes value span start len)

-- ---- bytes that no value contains

neither : (a b : Bool) → (a || b) ≡ false → (a ≡ false) × (b ≡ false)
neither true b none = cc
neither false b none = (refl, none)

-- a byte not in a list isn't in a part of it
dropped_without : (test : ℕ → Bool) (n : ℕ) (bytes : List ℕ) → list_any test bytes ≡ false → list_any test (drop n bytes) ≡ false
dropped_without test zero bytes none = none
dropped_without test (suc n) [] none = none
dropped_without test (suc n) (b ∷ bytes) none = dropped_without test n bytes (neither (test b) (list_any test bytes) none).1

taken_without : (test : ℕ → Bool) (n : ℕ) (bytes : List ℕ) → list_any test bytes ≡ false → list_any test (take n bytes) ≡ false
taken_without test zero bytes none = refl
taken_without test (suc n) [] none = none
taken_without test (suc n) (b ∷ bytes) none =
    let parts = neither (test b) (list_any test bytes) none in
    rw (parts.0, taken_without test n bytes parts.1) refl

-- nor in any value in these bytes
pub values_without : (bytes : List ℕ) (spans : List Span) → has_soh bytes ≡ false → list_any (λ f. has_soh f.value) (fields_in bytes spans) ≡ false
values_without bytes [] none = refl
values_without bytes (span ∷ spans) none =
    let test : ℕ → Bool = λ b. b == soh in
    let first = taken_without test span.len (drop span.start bytes) (dropped_without test span.start bytes none) in
    rw (first, values_without bytes spans none) refl

-- ---- values in the buffer being read

-- if the bytes end in a value, its SOH and others, this is the place of the value
pub value_lies : (bytes rest front value after : List ℕ) (tag : ℕ) (span : Span) → length rest ≤ length bytes → rest ≡ drop (length bytes - length rest) bytes
    → rest ≡ (front ++ value) ++ soh ∷ after → LiesBefore span bytes tag (length value) (length after)
    → IsWithin bytes span × (field_in bytes span ≡ tag_value tag value)
value_lies bytes rest front value after tag span short left parts lies =
    let seen = take (length bytes - length rest) bytes in
    let before = seen ++ front in
    let all : bytes ≡ before ++ (value ++ soh ∷ after) =
    sym (take-append-drop (length bytes - length rest) bytes)
    ∙ ap (λ (t : List ℕ). seen ++ t) (sym left ∙ parts ∙ append_assoc front value (soh ∷ after))
    ∙ sym (append_assoc seen front (value ++ soh ∷ after)) in
    let size = ap length all in
    let place : length before ≡ span.start = omega (arith, size, length-append before (value ++ soh ∷ after), length-append value (soh ∷ after), lies.ends) in
    let there : drop span.start bytes ≡ value ++ soh ∷ after = ap (drop span.start) all ∙ drop_at before (value ++ soh ∷ after) span.start place in
    let cut : take span.len (drop span.start bytes) ≡ value = ap (take span.len) there ∙ take_at value (soh ∷ after) span.len (sym lies.sized) in (
      omega (arith, lies.ends, lies.sized),
      ap (λ k. tag_value k (take span.len (drop span.start bytes))) lies.tagged ∙ ap (tag_value tag) cut,
    )

-- one more span within the buffer
pub within-push : (bytes : List ℕ) (spans : List Span) (span : Span) → AreWithin bytes spans → IsWithin bytes span → AreWithin bytes (spans ++ span ∷ [])
within-push bytes [] span within here = (here, tt)
within-push bytes (s ∷ ss) span within here = (within.0, within-push bytes ss span within.1 here)

-- and its field
pub fields_in-one_more : (bytes : List ℕ) (spans : List Span) (span : Span) (field : TagValue) → field_in bytes span ≡ field → fields_in bytes (spans ++ span ∷ []) ≡ fields_in bytes spans ++ field ∷ []
fields_in-one_more bytes spans span field is =
    map-append (field_in bytes) spans (span ∷ []) ∙ ap (λ (f : TagValue). fields_in bytes spans ++ f ∷ []) is

-- what is left remains a rest of the bytes
pub left_on : (bytes rest : List ℕ) (n : ℕ) → length rest ≤ length bytes → rest ≡ drop (length bytes - length rest) bytes → n ≤ length rest
    → drop n rest ≡ drop (length bytes - length (drop n rest)) bytes
left_on bytes rest n short left within =
    let k = length bytes - length rest in
    let place : k + n ≡ length bytes - length (drop n rest) = omega (arith, length-drop n rest) in
    ap (drop n) left ∙ drop-drop n k bytes ∙ ap (λ i. drop i bytes) place

-- ---- values in a text being written

-- the place of a field's value, if its text is at the end of the buffer
pub record LiesAfter (bytes value : List ℕ) (tag : ℕ) (span : Span) : Type 0 where
  pub tagged : span.tag ≡ tag
  pub begins : span.start ≡ length bytes + length (decimal tag) + 1
  pub sized : span.len ≡ length value

-- that field
field_in-text : (bytes value : List ℕ) (tag : ℕ) (span : Span) → LiesAfter bytes value tag span → field_in (bytes ++ field_text (tag_value tag value)) span ≡ tag_value tag value
field_in-text bytes value tag span lies =
    let digits = decimal tag in
    let before = bytes ++ digits ++ 61 ∷ [] in
    let all : bytes ++ field_text (tag_value tag value) ≡ before ++ (value ++ soh ∷ []) =
    ap (λ (t : List ℕ). bytes ++ t) (append_assoc digits (61 ∷ value) (soh ∷ []))
    ∙ sym (append_assoc bytes digits (61 ∷ value ++ soh ∷ []))
    ∙ sym (append_assoc (bytes ++ digits) (61 ∷ []) (value ++ soh ∷ [])) in
    let place : length before ≡ span.start = omega (arith, lies.begins, length-append (bytes ++ digits) (61 ∷ []), length-append bytes digits) in
    let there = ap (drop span.start) all ∙ drop_at before (value ++ soh ∷ []) span.start place in
    let cut = ap (take span.len) there ∙ take_at value (soh ∷ []) span.len (sym lies.sized) in
    ap (λ k. tag_value k (take span.len (drop span.start (bytes ++ field_text (tag_value tag value))))) lies.tagged ∙ ap (tag_value tag) cut

-- one more field, whose text is appended
pub fields_in-text : (bytes value : List ℕ) (tag : ℕ) (spans : List Span) (span : Span) → AreWithin bytes spans → LiesAfter bytes value tag span
    → fields_in (bytes ++ field_text (tag_value tag value)) (spans ++ span ∷ []) ≡ fields_in bytes spans ++ tag_value tag value ∷ []
fields_in-text bytes value tag spans span within lies =
    let text = field_text (tag_value tag value) in
    fields_in-one_more (bytes ++ text) spans span (tag_value tag value) (field_in-text bytes value tag span lies)
    ∙ ap (λ (t : List TagValue). t ++ tag_value tag value ∷ []) (fields_in-append bytes text spans within)

-- the buffer is still the text of all of them
pub spelled-text : (bytes value : List ℕ) (tag : ℕ) (spans : List Span) (span : Span) → AreSpelled bytes spans → LiesAfter bytes value tag span
    → AreSpelled (bytes ++ field_text (tag_value tag value)) (spans ++ span ∷ [])
spelled-text bytes value tag spans span spelled lies =
    let field = tag_value tag value in
    let text = field_text field in
    let size : length text ≡ length (decimal tag) + length value + 2 =
    omega (arith, length-append (decimal tag ++ 61 ∷ value) (soh ∷ []), length-append (decimal tag) (61 ∷ value)) in
    record {
      within = within-push (bytes ++ text) spans span (within-append bytes text spans spelled.within) (omega (arith, lies.begins, lies.sized, size, length-append bytes text));
      text = ap (λ (t : List ℕ). t ++ text) spelled.text ∙ flat_map_more field_text [] (fields_in bytes spans) field ∙ ap fields_text (sym (fields_in-text bytes value tag spans span spelled.within lies));
    }
