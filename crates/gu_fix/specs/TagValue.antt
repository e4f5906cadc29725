-- A field as messages have it: a tag, and the bytes of its value.
use Rattle.std.specs.Prelude.{ℕ, List}

-- a tag and its value
pub record TagValue : Type 0 where
  pub tag : ℕ
  pub value : List ℕ

-- the field with this tag and this value
abbrev pub tag_value : ℕ → List ℕ → TagValue
tag_value tag value = record { tag = tag; value = value }
