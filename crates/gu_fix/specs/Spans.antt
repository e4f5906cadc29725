-- Machinery: the places of values in one buffer. No other crate names this file.
use Rattle.std.specs.Prelude.{◌≡◌, ℕ, ◌+◌, ◌-◌, ◌<◌, ◌≤◌, ◌==◌, List, length, slice_index, take, drop, map}
use Rattle.std.specs.List.{AllByRecursion}
use Rattle.std.specs.Str.Parse.{AllDigits, digits_value}
use Rattle.gu_fix.specs.Encoding.{fields_text}
use Rattle.std.specs.Simd.Lanes.{mask_l}
use Rattle.gu_fix.specs.Fields.{NoSoh, equals}
use Rattle.gu_fix.specs.WholeMessage.{soh}
use Rattle.gu_fix.specs.TagValue.{TagValue, tag_value}
use Rattle.gu_fix.specs.declared.field.Span.{Span}

-- a span lies within the buffer
abbrev pub IsWithin : List ℕ → Span → Type 0
IsWithin bytes span = span.start + span.len ≤ length bytes

-- the field whose value is at this place
abbrev pub field_in : List ℕ → Span → TagValue
field_in bytes span = tag_value span.tag (take span.len (drop span.start bytes))

-- each span lies within the buffer
abbrev pub AreWithin : List ℕ → List Span → Type 0
AreWithin bytes spans = AllByRecursion (IsWithin bytes) spans

-- the fields whose values are at these places, in order
abbrev pub fields_in : List ℕ → List Span → List TagValue
fields_in bytes spans = map (field_in bytes) spans

-- the buffer is the text of the fields whose values are at these places
pub record AreSpelled (bytes : List ℕ) (spans : List Span) : Type 0 where
  pub within : AreWithin bytes spans
  pub text : bytes ≡ fields_text (fields_in bytes spans)

-- this byte is at this position
pub record StandsAt (byte place : ℕ) (bytes : List ℕ) : Type 0 where
  pub within : place < length bytes
  pub there : slice_index bytes place ≡ byte

-- at most nine digits come before the first `=`: their number, and its position
pub record HasNumber (part : List ℕ) (number place : ℕ) : Type 0 where
  pub behind : StandsAt equals place part
  pub most : place ≤ 9
  pub all : AllDigits 10 (take place part)
  pub value : digits_value 10 (take place part) ≡ number

-- the place of a value of this length, given how many bytes are left after its SOH
pub record LiesBefore (span : Span) (bytes : List ℕ) (tag len left : ℕ) : Type 0 where
  pub tagged : span.tag ≡ tag
  pub sized : span.len ≡ len
  pub ends : span.start + len + 1 + left ≡ length bytes

-- bit k is set if and only if byte k is SOH
abbrev pub soh_marks : List ℕ → ℕ
soh_marks bytes = mask_l (map (λ b. b == soh) bytes)

-- the part that begins at a position ends here: before the first SOH
pub record EndsPart (bytes : List ℕ) (start end : ℕ) : Type 0 where
  pub low : start ≤ end
  pub high : end < length bytes
  pub none : NoSoh (take (end - start) (drop start bytes))
  pub there : slice_index bytes end ≡ soh
