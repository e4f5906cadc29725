-- Answers to queries, each kind by its own definition.
use Rattle.std.specs.Prelude.{◌≡◌, ◌+◌, false, is_some, length, IfSome}
use Rattle.gu_terms.specs.declared.query.Query.{Query}
use Rattle.gu_terms.specs.declared.query.Query.TheVariants as asked
use Rattle.gu_ref.specs.Reference.{is_group}
use Rattle.gu_ref.specs.Tables.{Tables}
use Rattle.gu_view.specs.View.{IsNested}
use Rattle.gu_rules.specs.BookState.{BookState}
use Rattle.gu_rules.specs.Notices.{notices_of}
use Rattle.gu_rules.specs.Positions.{is_of_firm, long_of, open_interest_of, position_rows, short_of}
use Rattle.gu_rules.specs.Reports.{open_day}
use Rattle.gu_rules.specs.Views.{group_view}
use Rattle.gu_book.specs.declared.asking.Answer.{Answer}
use Rattle.gu_book.specs.declared.asking.Answer.TheVariants as answered

-- the book's answer to a query: the lots that the account holds long and short; the open interest; the account's positions, if it is the
-- firm's; the group's view, which is nested; or the notices from a number on, and the number after the last entry. An answer of another
-- kind is never right
abbrev pub IsAnswer : BookState → Query → Answer → Type 0
IsAnswer book (asked.Position account symbol) (answered.Position long short) =
    (long ≡ long_of book.history account symbol) × (short ≡ short_of book.history account symbol)
IsAnswer book (asked.Interest symbol) (answered.Interest lots) = lots ≡ open_interest_of book symbol
IsAnswer book (asked.Positions firm account) (answered.Positions rows) =
    (is_some rows ≡ is_of_firm book.reference firm account)
    × IfSome rows (λ p. (p.day ≡ open_day book.history) × (p.rows.items ≡ position_rows book account))
IsAnswer book (asked.Look group) (answered.Look view) = (view ≡ group_view book.reference book.history group) × IsNested view
IsAnswer book (asked.Notices firm from) (answered.Notices notices) =
    (notices.next ≡ length book.history + 1) × (notices.list.items ≡ notices_of book firm from)
IsAnswer book query answer = ⊥

-- the query is for the view of a group that the reference lacks
abbrev pub IsUnknown : Tables → Query → Type 0
IsUnknown reference (asked.Look group) = is_group reference group ≡ false
IsUnknown reference query = ⊥
