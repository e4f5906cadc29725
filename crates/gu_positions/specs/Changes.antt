-- How the rows change when one is made, and when lots are added to or taken from an account.
use Rattle.std.specs.Prelude.{◌≡◌, ℕ, ◌+◌, ◌-◌, Bool, ◌&&◌, List, [], ◌∷◌, ◌++◌, map, if◌then◌else◌}
use Rattle.gu_terms.specs.declared.account.AccountId.{AccountId}
use Rattle.gu_terms.specs.declared.side.Side.{Side}
use Rattle.gu_terms.specs.declared.side.Side.TheVariants.{Buy, Sell}
use Rattle.gu_terms.specs.declared.symbol.Symbol.{Symbol}
use Rattle.gu_terms.specs.Same.{same_account, same_side, same_symbol}
use Rattle.gu_positions.specs.declared.row_no.RowNo.{RowNo}
use Rattle.gu_positions.specs.Numbers.{IsRowOf}
use Rattle.gu_positions.specs.Rows.{Row, has_row, is_of, lots_in, lots_on, open_interest_in}

-- an empty row
abbrev pub empty_row : AccountId → Symbol → Row
empty_row account symbol = record { account = account; symbol = symbol; long = 0; short = 0 }

-- the rows, with an empty one added last if the account has none for the instrument
abbrev pub with_row : List Row → AccountId → Symbol → List Row
with_row rows account symbol = if has_row rows account symbol then rows else rows ++ empty_row account symbol ∷ []

-- a row with more lots on a side
abbrev pub more_in : Side → ℕ → Row → Row
more_in Buy lots r = record { account = r.account; symbol = r.symbol; long = r.long + lots; short = r.short }
more_in Sell lots r = record { account = r.account; symbol = r.symbol; long = r.long; short = r.short + lots }

-- a row with fewer lots on a side
abbrev pub less_in : Side → ℕ → Row → Row
less_in Buy lots r = record { account = r.account; symbol = r.symbol; long = r.long - lots; short = r.short }
less_in Sell lots r = record { account = r.account; symbol = r.symbol; long = r.long; short = r.short - lots }

-- the rows after lots are added to an account, on one side of an instrument
abbrev pub with_more : List Row → Side → AccountId → Symbol → ℕ → List Row
with_more rows side account symbol lots = map (λ r. if is_of account symbol r then more_in side lots r else r) rows

-- the rows after lots are taken from an account, on one side of an instrument
abbrev pub with_less : List Row → Side → AccountId → Symbol → ℕ → List Row
with_less rows side account symbol lots = map (λ r. if is_of account symbol r then less_in side lots r else r) rows

-- two places are the same: the same account and the same instrument
abbrev pub same_place : AccountId → Symbol → AccountId → Symbol → Bool
same_place account symbol other another = same_account account other && same_symbol symbol another

-- the part of lots on one side, in one account and instrument, that is on another: all of them if the two are the same, else 0
abbrev pub lots_at : Side → AccountId → Symbol → ℕ → Side → AccountId → Symbol → ℕ
lots_at side account symbol lots other_side other another = if same_side side other_side && same_place account symbol other another then lots else 0

-- the part of lots on one side of one instrument that is on another: all of them if the two are the same, else 0
abbrev pub lots_at_side : Side → Symbol → ℕ → Side → Symbol → ℕ
lots_at_side side symbol lots other_side another = if same_side side other_side && same_symbol symbol another then lots else 0

-- each account has a row for the same instruments as before
abbrev pub KeepsRows : List Row → List Row → Type 0
KeepsRows old new = (account : AccountId) (symbol : Symbol) → has_row new account symbol ≡ has_row old account symbol

-- the rows made so far keep their numbers
abbrev pub KeepsNumbers : List Row → List Row → Type 0
KeepsNumbers old new = (account : AccountId) (symbol : Symbol) (row : RowNo) → IsRowOf old account symbol row → IsRowOf new account symbol row

-- no answer changes: each account's lots, their totals and the open interest stay the same
pub record KeepsLots (old new : List Row) : Type 0 where
  pub lots : (side : Side) (account : AccountId) (symbol : Symbol) → lots_in new side account symbol ≡ lots_in old side account symbol
  pub sums : (side : Side) (symbol : Symbol) → lots_on new side symbol ≡ lots_on old side symbol
  pub interest : (symbol : Symbol) → open_interest_in new symbol ≡ open_interest_in old symbol
