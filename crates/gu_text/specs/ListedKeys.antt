-- Machinery: look-up of a cut's keys while its lines are read.
use Rattle.std.specs.Prelude.{ℕ, ◌-◌, List, [], ◌∷◌, length, take}
use Rattle.gu_terms.specs.LimitKeys.{kind_of, name_of_key}
use Rattle.gu_terms.specs.declared.limit_key.LimitKey.{LimitKey}

-- a text without its last byte
abbrev pub all_but_last : List ℕ → List ℕ
all_but_last text = take (length text - 1) text

-- keys of one kind whose names differ only in the last byte are looked up by the same hash
abbrev pub looked_up_by : LimitKey → List (List ℕ)
looked_up_by key = kind_of key ∷ all_but_last (name_of_key key) ∷ []
