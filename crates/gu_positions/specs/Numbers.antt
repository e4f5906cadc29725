-- Row numbers, in the order in which rows were made.
use Rattle.std.specs.Prelude.{◌≡◌, ◌<◌, ℕ, Bool, false, List, [], length, slice_get}
use Rattle.std.specs.Option.{option_map_or}
use Rattle.gu_terms.specs.declared.account.AccountId.{AccountId}
use Rattle.gu_terms.specs.declared.symbol.Symbol.{Symbol}
use Rattle.gu_positions.specs.declared.row_no.RowNo.{RowNo}
use Rattle.gu_positions.specs.Rows.{Row, is_of}

-- the row with this number is for this account and instrument
abbrev pub is_numbered : List Row → AccountId → Symbol → ℕ → Bool
is_numbered rows account symbol number = option_map_or (is_of account symbol) (slice_get rows number) false

-- the account of the row with this number; an empty name if there is none
abbrev pub account_at : List Row → RowNo → AccountId
account_at rows row = option_map_or (λ (r : Row). r.account) (slice_get rows row.number) (record { name = [] })

-- the instrument of the row with this number; an empty name if there is none
abbrev pub symbol_at : List Row → RowNo → Symbol
symbol_at rows row = option_map_or (λ (r : Row). r.symbol) (slice_get rows row.number) (record { name = [] })

-- the row was made: its number is less than the number of rows
abbrev pub IsMade : List Row → RowNo → Type 0
IsMade rows row = row.number < length rows

-- the row was made, and is for this account and this instrument
pub record IsRowOf (rows : List Row) (account : AccountId) (symbol : Symbol) (row : RowNo) : Type 0 where
  pub made : IsMade rows row
  pub account_is : account_at rows row ≡ account
  pub symbol_is : symbol_at rows row ≡ symbol
