-- Seating: a desk, as contracts see it.
use Rattle.std.specs.Prelude.{ℕ, []}
use Rattle.gu_ref.specs.Tables.{Tables}
use Rattle.gu_view.specs.Boards.{Shelves}

-- the number of seats at the desk, and its board
pub record Seating : Type 0 where
  pub seats : ℕ
  pub board : Shelves

-- machinery: a reference without rows, used by the kit's brand before a desk's own ledgers are picked
abbrev pub no_tables : Tables
no_tables = record { firms = []; groups = []; instruments = []; accounts = []; agreements = []; guarantors = [] }
