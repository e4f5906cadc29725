-- Cuts.
use Rattle.std.specs.Prelude.{ℕ, Bool, ◌==◌, List}
use Rattle.std.specs.List.{list_any}
use Rattle.gu_terms.specs.declared.limit_key.LimitKey.{LimitKey}

-- the keys and the offers of a cut, in the order in which they were added
pub record CutLists : Type 0 where
  pub keys : List LimitKey
  pub offers : List ℕ

-- a number is in this list
abbrev pub has_number : List ℕ → ℕ → Bool
has_number numbers n = list_any (λ m. m == n) numbers
