-- The firms notified of an entry.
use Rattle.std.specs.Prelude.{ℕ, IfSome}
use Rattle.gu_terms.specs.Histories.{entry_at}
use Rattle.gu_terms.specs.declared.entry.Entry.{Entry}
use Rattle.gu_rules.specs.BookState.{BookState}
use Rattle.gu_rules.specs.Notices.{register_of, told_by}
use Rattle.gu_notices.specs.Recipients.{Holds}
use Rattle.gu_notices.specs.declared.firm_filter.FirmFilter.{FirmFilter}

-- a set may hold every firm notified of the entry with this number; if there is no such entry, any set will do
abbrev pub HoldsInformed : BookState → ℕ → FirmFilter → Type 0
HoldsInformed book number firms = IfSome (entry_at book.history number) (λ (entry : Entry). Holds firms (told_by (register_of book) number entry))
