-- Machinery: positions in a table.
use Rattle.std.specs.Prelude.{◌≡◌, ℕ, List, Some, slice_get}

-- the entry with this key is at this index
pub record StandsAt {K V : Type 0} (entries : List (K × V)) (key : K) (place : ℕ) : Type 0 where
  pub value : V
  pub here : slice_get entries place ≡ Some (key, value)
