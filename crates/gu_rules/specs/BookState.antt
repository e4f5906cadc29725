-- The book, as contracts see it.
use Rattle.std.specs.Prelude.{List}
use Rattle.gu_terms.specs.declared.entry.Entry.{Entry}
use Rattle.gu_ref.specs.Tables.{Tables}

-- its reference and its history
pub record BookState : Type 0 where
  pub reference : Tables
  pub history : List Entry
