-- Positions: a row for each account and instrument, in the order in which they were made.
use Rattle.std.specs.Prelude.{ℕ, ◌-◌, Bool, ◌&&◌, List, find, sum_by, if◌then◌else◌}
use Rattle.std.specs.List.{list_any}
use Rattle.std.specs.Option.{option_map_or}
use Rattle.gu_terms.specs.declared.account.AccountId.{AccountId}
use Rattle.gu_terms.specs.declared.side.Side.{Side}
use Rattle.gu_terms.specs.declared.side.Side.TheVariants.{Buy, Sell}
use Rattle.gu_terms.specs.declared.symbol.Symbol.{Symbol}
use Rattle.gu_terms.specs.Same.{same_account, same_symbol}

-- a row: the lots that an account holds in an instrument, long and short
pub record Row : Type 0 where
  pub account : AccountId
  pub symbol : Symbol
  pub long : ℕ
  pub short : ℕ

-- the row is for this account and this instrument
abbrev pub is_of : AccountId → Symbol → Row → Bool
is_of account symbol r = same_account account r.account && same_symbol symbol r.symbol

-- two rows are for the same account and the same instrument
abbrev pub same_row : Row → Row → Bool
same_row a b = same_account a.account b.account && same_symbol a.symbol b.symbol

-- the lots of a row on a side: long if bought, short if sold
abbrev pub lots_of : Side → Row → ℕ
lots_of Buy r = r.long
lots_of Sell r = r.short

-- the account has a row for the instrument
abbrev pub has_row : List Row → AccountId → Symbol → Bool
has_row rows account symbol = list_any (is_of account symbol) rows

-- the lots that an account holds on a side of an instrument; 0 if it has no row
abbrev pub lots_in : List Row → Side → AccountId → Symbol → ℕ
lots_in rows side account symbol = option_map_or (lots_of side) (find (is_of account symbol) rows) 0

-- the lots that all accounts hold on a side of an instrument
abbrev pub lots_on : List Row → Side → Symbol → ℕ
lots_on rows side symbol = sum_by (λ r. if same_symbol r.symbol symbol then lots_of side r else 0) rows

-- the open interest of an instrument: the sum, over its rows, of the excess of long lots over short ones
abbrev pub open_interest_in : List Row → Symbol → ℕ
open_interest_in rows symbol = sum_by (λ r. if same_symbol r.symbol symbol then r.long - r.short else 0) rows
