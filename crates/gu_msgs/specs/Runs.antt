-- Machinery: consecutive fields. No other crate names this file.
use Rattle.std.specs.Prelude.{ℕ, ◌-◌, ◌≤◌, List, length, take, drop}
use Rattle.gu_fix.specs.TagValue.{TagValue}

-- the fields from one index up to another
abbrev pub fields_between : List TagValue → ℕ → ℕ → List TagValue
fields_between fields from to = take (to - from) (drop from fields)

-- these are such indexes
pub record IsBetween (fields : List TagValue) (from to : ℕ) : Type 0 where
  pub ordered : from ≤ to
  pub within : to ≤ length fields
