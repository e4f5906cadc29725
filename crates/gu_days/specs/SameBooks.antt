-- Histories that come to one book.
use Rattle.std.specs.Prelude.{◌≡◌, List, length}
use Rattle.gu_terms.specs.declared.account.AccountId.{AccountId}
use Rattle.gu_terms.specs.declared.entry.Entry.{Entry}
use Rattle.gu_terms.specs.declared.group.Group.{Group}
use Rattle.gu_terms.specs.declared.limit_key.LimitKey.{LimitKey}
use Rattle.gu_terms.specs.declared.side.Side.{Side}
use Rattle.gu_terms.specs.declared.symbol.Symbol.{Symbol}
use Rattle.gu_ref.specs.Tables.{Tables}
use Rattle.gu_rules.specs.Answer.{state_of}
use Rattle.gu_rules.specs.Limits.{limit_row}
use Rattle.gu_rules.specs.Offers.{standing_of}
use Rattle.gu_rules.specs.Positions.{held_of}
use Rattle.gu_rules.specs.Reports.{open_day, reports_of}
use Rattle.gu_rules.specs.Versions.{version_of}
use Rattle.gu_rules.specs.Views.{group_view}

-- as many entries, by which the same day is open, the same reports and offers are there, what each offer and each limit has left is the same, each account
-- holds the same, each group has the same version and view, and all that answers depend on is the same
pub record AreOneBook (reference : Tables) (history other : List Entry) : Type 0 where
  pub length : length other ≡ length history
  pub today : open_day other ≡ open_day history
  pub reports : reports_of other ≡ reports_of history
  pub offers : standing_of other ≡ standing_of history
  pub limits : (group : Group) (key : LimitKey) → limit_row reference other group key ≡ limit_row reference history group key
  pub positions : (side : Side) (account : AccountId) (symbol : Symbol) → held_of other side account symbol ≡ held_of history side account symbol
  pub versions : (group : Group) → version_of other group ≡ version_of history group
  pub views : (group : Group) → group_view reference other group ≡ group_view reference history group
  pub answers : state_of reference other ≡ state_of reference history
