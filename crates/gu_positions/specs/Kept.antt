-- Machinery: how positions are stored: each row's lots under its account and instrument, and each instrument's open interest.
use Rattle.std.specs.Prelude.{◌≡◌, ℕ, ◌<◌, ◌^◌, Bool, ◌&&◌, List, map, Some, unwrap_or}
use Rattle.std.specs.List.{IsDistinct}
use Rattle.indexmap.specs.IndexMap.{get}
use Rattle.gu_terms.specs.declared.account.AccountId.{AccountId}
use Rattle.gu_terms.specs.declared.side.Side.{Side}
use Rattle.gu_terms.specs.declared.symbol.Symbol.{Symbol}
use Rattle.gu_terms.specs.Same.{same_account, same_symbol}
use Rattle.gu_terms.specs.Standing.{StandsAt}
use Rattle.gu_positions.specs.declared.holding.Holding.{Holding}
use Rattle.gu_positions.specs.declared.positions.Place.{Place}
use Rattle.gu_positions.specs.declared.positions.Positions.TheInside.{Inside}
use Rattle.gu_positions.specs.Rows.{Row, lots_on, open_interest_in, same_row}

-- a row, made from its account and instrument and its lots
abbrev pub row_of : Place × Holding → Row
row_of e = record { account = e.0.account; symbol = e.0.symbol; long = e.1.long; short = e.1.short }

-- an account and an instrument, under which a row is stored
abbrev pub place_of : AccountId → Symbol → Place
place_of account symbol = record { account = account; symbol = symbol }

-- the same account and instrument
abbrev pub same_key : Place → Place → Bool
same_key a b = same_account a.account b.account && same_symbol a.symbol b.symbol

-- the rows, in order
abbrev pub rows_of : Inside → List Row
rows_of kept = map row_of kept.rows.entries

-- instruments keep their indexes among the open interests
abbrev pub KeepsPlaces : List (Symbol × ℕ) → List (Symbol × ℕ) → Type 0
KeepsPlaces old new = (symbol : Symbol) (place : ℕ) → StandsAt old symbol place → StandsAt new symbol place

-- each row occurs once, total lots are below 2^64, and an instrument with rows has its open interest at the index kept in each of them
pub record IsKept (kept : Inside) : Type 0 where
  pub once : IsDistinct same_row (rows_of kept)
  pub few : (side : Side) (symbol : Symbol) → lots_on (rows_of kept) side symbol < 2 ^ 64
  pub places : (account : AccountId) (symbol : Symbol) (held : Holding) → get same_key kept.rows (place_of account symbol) ≡ Some held
      → StandsAt kept.interests.entries symbol held.interest
  pub interests : (symbol : Symbol) → unwrap_or (get same_symbol kept.interests symbol) 0 ≡ open_interest_in (rows_of kept) symbol
