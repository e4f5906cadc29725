-- Field values by tag (FIX tagvalue encoding).
use Rattle.std.specs.Prelude.{◌≡◌, ◌==◌, ◌&&◌, ℕ, Bool, nat_lt, List, [], ◌∷◌, length, Option, None, Some, is_some, MatchOption, if◌then◌else◌, ⊤}
use Rattle.std.specs.List.{list_all}
use Rattle.std.specs.Char.{digit_value}
use Rattle.gu_fix.specs.TagValue.{TagValue}

-- the value of the first field with this tag
abbrev pub first_value : ℕ → List TagValue → Option (List ℕ)
first_value tag [] = None
first_value tag (field ∷ fields) = if field.tag == tag then Some field.value else first_value tag fields

-- whether a field has this tag
abbrev pub stands : ℕ → List TagValue → Bool
stands tag fields = is_some (first_value tag fields)

-- the fields after the first one with this tag
abbrev pub behind : ℕ → List TagValue → List TagValue
behind tag [] = []
behind tag (field ∷ fields) = if field.tag == tag then fields else behind tag fields

-- the value of a tag that occurs exactly once
abbrev pub only_value : ℕ → List TagValue → Option (List ℕ)
only_value tag fields = if stands tag (behind tag fields) then None else first_value tag fields

-- only digits, at least one
abbrev pub is_numeral : List ℕ → Bool
is_numeral text = nat_lt 0 (length text) && list_all (λ b. nat_lt (digit_value b) 10) text

-- the tag is present, and its first value has this property
pub record Holds (tag : ℕ) (IsSuch : List ℕ → Type 0) (fields : List TagValue) : Type 0 where
  pub value : List ℕ
  pub first : first_value tag fields ≡ Some value
  pub such : IsSuch value

-- the tag is absent, or its first value has this property
abbrev pub MayHold : ℕ → (List ℕ → Type 0) → List TagValue → Type 0
MayHold tag IsSuch fields = MatchOption (first_value tag fields) ⊤ IsSuch
