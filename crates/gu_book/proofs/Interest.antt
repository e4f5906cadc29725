-- The open interest summed over rows equals that summed over accounts.
use Rattle.gu_book.proofs.Words.{◌≡◌, ℕ, ◌-◌, ◌&&◌, false, List, [], ◌∷◌, Option, Some, None, is_some, refl, sym, ap, ◌∙◌, arith, AllByRecursion, IsDistinct, option_map_or, same_account-own, same_account-turned, same_symbol-own, same_symbol-turned, same_account, AccountId, Entry, Buy, Sell, Symbol, along, along2, sum_by-agree, account_row, Tables, is_of, lots_in, open_interest_in, same_row, BookState, IsLegal, held_of, open_interest_of, IsBeside, Totals}
use Rattle.std.proofs.Common.{find}
use Rattle.std.proofs.lemmas.Map.Keys.{IsDistinct-head, IsDistinct-tail}
use Rattle.gu_ref.specs.declared.accounts.Account.{Account}
use Rattle.gu_positions.specs.Rows.{Row, lots_of}
use Rattle.gu_rules.proofs.AccountSums.{over-accounts}
use Rattle.gu_rules.proofs.LegalLaws.{unknown-holds-none}

-- a row is the one found by its account and its instrument
found-own : (rows : List Row) → IsDistinct same_row rows → AllByRecursion (λ (r : Row). find (is_of r.account r.symbol) rows ≡ Some r) rows
found-own [] once = tt
found-own (first ∷ rows) once = (
  rw (same_account-own first.account, same_symbol-own first.symbol) refl,
  along2 (λ (r : Row). same_row first r ≡ false) (λ (r : Row). find (is_of r.account r.symbol) rows ≡ Some r) (λ (r : Row). find (is_of r.account r.symbol) (first ∷ rows) ≡ Some r) rows
      (λ r apart found.
      let turned : is_of r.account r.symbol first ≡ same_row first r = λ i. same_account-turned r.account first.account i && same_symbol-turned r.symbol first.symbol i in
      rw (turned ∙ apart) found)
      (IsDistinct-head same_row first rows once) (found-own rows (IsDistinct-tail same_row first rows once)),
)

-- a row whose account isn't in the reference has no long lots
none-long : (reference : Tables) (history : List Entry) (totals : Totals) (r : Row) → IsLegal reference history → IsBeside reference history totals → find (is_of r.account r.symbol) totals.positions ≡ Some r
    → is_some (account_row reference r.account) ≡ false → r.long ≡ 0
none-long reference history totals r legal beside found none =
    ap (λ (o : Option Row). option_map_or (lots_of Buy) o 0) (sym found) ∙ beside.positions Buy r.account r.symbol ∙ unknown-holds-none reference history Buy r.account r.symbol legal none

-- a row's excess of long lots over short ones
abbrev net : Row → ℕ
net r = r.long - r.short

-- that of the row of an account and an instrument
net-in : (rows : List Row) (account : AccountId) (symbol : Symbol) → option_map_or net (find (is_of account symbol) rows) 0 ≡ lots_in rows Buy account symbol - lots_in rows Sell account symbol
net-in rows account symbol = by (find (is_of account symbol) rows)
  where
    by : (found : Option Row) → option_map_or net found 0 ≡ option_map_or (lots_of Buy) found 0 - option_map_or (lots_of Sell) found 0
    by None = refl
    by (Some r) = refl

-- the open interest summed over rows equals that summed over accounts
pub interest-is : (book : BookState) (totals : Totals) (symbol : Symbol) → IsDistinct (λ a b. same_account a.account b.account) book.reference.accounts → IsDistinct same_row totals.positions
    → IsLegal book.reference book.history → IsBeside book.reference book.history totals → open_interest_in totals.positions symbol ≡ open_interest_of book symbol
interest-is book totals symbol accounts once legal beside =
    let rows = totals.positions in
    let all = book.reference.accounts in
    over-accounts net all rows symbol accounts once
    (along (λ (r : Row). find (is_of r.account r.symbol) rows ≡ Some r) (λ (r : Row). is_some (account_row book.reference r.account) ≡ false → net r ≡ 0) rows
    (λ r found none. omega (arith, none-long book.reference book.history totals r legal beside found none)) (found-own rows once))
    ∙ sum_by-agree (λ (a : Account). option_map_or net (find (is_of a.account symbol) rows) 0) (λ (a : Account). held_of book.history Buy a.account symbol - held_of book.history Sell a.account symbol) all
    (λ a. net-in rows a.account symbol ∙ (λ i. beside.positions Buy a.account symbol i - beside.positions Sell a.account symbol i))
