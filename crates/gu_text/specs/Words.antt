-- The words of a line.
use Rattle.std.specs.Prelude.{ℕ, Bool, true, false, not, ◌||◌, ◌-◌, ◌==◌, List, [], ◌∷◌, filter, length, slice_get}
use Rattle.std.specs.List.{slice_split}
use Rattle.std.specs.Option.{option_map_or}

-- a space
abbrev pub is_blank : ℕ → Bool
is_blank b = b == 32

-- no bytes
abbrev pub is_empty : List ℕ → Bool
is_empty [] = true
is_empty (first ∷ rest) = false

-- the words of a line: the non-empty parts between its spaces
abbrev pub words_of : List ℕ → List (List ℕ)
words_of line = filter (λ word. not (is_empty word)) (slice_split is_blank line)

-- there is a space at an index
abbrev pub is_blank_at : List ℕ → ℕ → Bool
is_blank_at line place = option_map_or is_blank (slice_get line place) false

-- a line begins or ends with a space
abbrev pub is_ragged : List ℕ → Bool
is_ragged line = is_blank_at line 0 || is_blank_at line (length line - 1)
