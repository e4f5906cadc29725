-- The total over the rows of positions is the total over the accounts.
use Rattle.gu_rules.proofs.Words.{◌≡◌, ℕ, ◌&&◌, Bool, true, false, List, [], ◌∷◌, sum_by, is_some, refl, sym, ap, ◌∙◌, arith, if◌then◌else◌, inl, inr, cases_Bool, sum_by-cons, AllByRecursion, IsDistinct, option_map_or, sum_by-agree, sum_by-swap, same_account-true, same_account-turned, same_symbol-true, same_symbol-turned, both, same_account, same_symbol, AccountId, Symbol, account_in, Account}
use Rattle.std.proofs.Common.{find}
use Rattle.std.proofs.lemmas.Map.Keys.{IsDistinct-head, IsDistinct-tail}
use Rattle.gu_positions.specs.Rows.{Row, is_of, same_row}

-- for any count over rows
module _ (counted : Row → ℕ) where
  -- the count for the row of an account and an instrument
  abbrev counted_in : List Row → AccountId → Symbol → ℕ
  counted_in rows account symbol = option_map_or counted (find (is_of account symbol) rows) 0

  -- the count of a row if it is that one
  abbrev counted_at : AccountId → Symbol → Row → ℕ
  counted_at account symbol r = if is_of account symbol r then counted r else 0

  -- an account has no other row after its own
  nothing-more : (account : AccountId) (symbol : Symbol) (r : Row) (rows : List Row) → is_of account symbol r ≡ true → AllByRecursion (λ other. same_row r other ≡ false) rows
      → sum_by (counted_at account symbol) rows ≡ 0
  nothing-more account symbol r [] own apart = refl
  nothing-more account symbol r (other ∷ rows) own apart =
      let parts = both _ _ own in
      let accounts = same_account-true account r.account parts.0 in
      let symbols = same_symbol-true symbol r.symbol parts.1 in
      let turned : is_of account symbol other ≡ same_row r other =
      λ i. same_account (accounts i) other.account && same_symbol (symbols i) other.symbol in
      let none : counted_at account symbol other ≡ 0 = rw (turned ∙ apart.0) refl in
      omega (arith, sum_by-cons (counted_at account symbol) other rows, none, nothing-more account symbol r rows own apart.1)

  -- the count over all rows of an account and an instrument is that of its row
  one-row : (rows : List Row) (account : AccountId) (symbol : Symbol) → IsDistinct same_row rows → sum_by (counted_at account symbol) rows ≡ counted_in rows account symbol
  one-row [] account symbol once = refl
  one-row (r ∷ rows) account symbol once =
      elim (cases_Bool (is_of account symbol r)) [
        | inl hit ↦
            let own : counted_at account symbol r ≡ counted r = rw hit refl in
            let found : counted_in (r ∷ rows) account symbol ≡ counted r = rw hit refl in
            omega (arith, sum_by-cons (counted_at account symbol) r rows, own, found, nothing-more account symbol r rows hit (IsDistinct-head same_row r rows once))
        | inr miss ↦
            let own : counted_at account symbol r ≡ 0 = rw miss refl in
            let found : counted_in (r ∷ rows) account symbol ≡ counted_in rows account symbol = rw miss refl in
            omega (arith, sum_by-cons (counted_at account symbol) r rows, own, found, one-row rows account symbol (IsDistinct-tail same_row r rows once))
      ]

  -- a row counts only for its account
  abbrev counts : Row → Symbol → ℕ
  counts r symbol = if same_symbol symbol r.symbol then counted r else 0

  no-more : (r : Row) (symbol : Symbol) (a : Account) (accounts : List Account) → same_account a.account r.account ≡ true → AllByRecursion (λ (other : Account). same_account a.account other.account ≡ false) accounts
      → sum_by (λ (o : Account). counted_at o.account symbol r) accounts ≡ 0
  no-more r symbol a [] own apart = refl
  no-more r symbol a (other ∷ accounts) own apart =
      let names = same_account-true a.account r.account own in
      let miss : same_account other.account r.account ≡ false =
      (λ i. same_account other.account (sym names i)) ∙ same_account-turned other.account a.account ∙ apart.0 in
      let none : counted_at other.account symbol r ≡ 0 = rw miss refl in
      omega (arith, sum_by-cons (λ (o : Account). counted_at o.account symbol r) other accounts, none, no-more r symbol a accounts own apart.1)

  pub one-account : (r : Row) (symbol : Symbol) (accounts : List Account) → IsDistinct (λ a b. same_account a.account b.account) accounts → is_some (account_in accounts r.account) ≡ true
      → sum_by (λ (a : Account). counted_at a.account symbol r) accounts ≡ counts r symbol
  one-account r symbol [] once there = cc
  one-account r symbol (a ∷ accounts) once there =
      elim (cases_Bool (same_account a.account r.account)) [
        | inl hit ↦
            let own : counted_at a.account symbol r ≡ counts r symbol = rw hit refl in
            omega (arith, sum_by-cons (λ (o : Account). counted_at o.account symbol r) a accounts, own, no-more r symbol a accounts hit (IsDistinct-head (λ a b. same_account a.account b.account) a accounts once))
        | inr miss ↦
            let own : counted_at a.account symbol r ≡ 0 = rw miss refl in
            let later : is_some (account_in accounts r.account) ≡ true = sym (rw miss refl) ∙ there in
            omega (arith, sum_by-cons (λ (o : Account). counted_at o.account symbol r) a accounts, own, one-account r symbol accounts (IsDistinct-tail (λ a b. same_account a.account b.account) a accounts once) later)
      ]

  -- the count over an instrument's rows
  abbrev counted_on : List Row → Symbol → ℕ
  counted_on rows symbol = sum_by (λ r. if same_symbol r.symbol symbol then counted r else 0) rows

  -- a row with count 0 counts 0 anywhere
  of-nothing : (b : Bool) (r : Row) → counted r ≡ 0 → (if b then counted r else 0) ≡ 0
  of-nothing true r none = none
  of-nothing false r none = refl

  of-nobody : (r : Row) (symbol : Symbol) (accounts : List Account) → counted r ≡ 0 → sum_by (λ (a : Account). counted_at a.account symbol r) accounts ≡ 0
  of-nobody r symbol [] none = refl
  of-nobody r symbol (a ∷ accounts) none =
      omega (arith, sum_by-cons (λ (o : Account). counted_at o.account symbol r) a accounts, of-nothing (is_of a.account symbol r) r none, of-nobody r symbol accounts none)

  -- a row counts only for its account, and counts 0 if its account isn't in the list
  abbrev pub IsOfThem : List Account → Row → Type 0
  IsOfThem accounts r = is_some (account_in accounts r.account) ≡ false → counted r ≡ 0

  one-row-counts : (r : Row) (symbol : Symbol) (accounts : List Account) → IsDistinct (λ a b. same_account a.account b.account) accounts → IsOfThem accounts r
      → sum_by (λ (a : Account). counted_at a.account symbol r) accounts ≡ counts r symbol
  one-row-counts r symbol accounts once own =
      elim (cases_Bool (is_some (account_in accounts r.account))) [
        | inl there ↦ one-account r symbol accounts once there
        | inr miss ↦ of-nobody r symbol accounts (own miss) ∙ sym (of-nothing (same_symbol symbol r.symbol) r (own miss))
      ]

  -- row by row, over the accounts
  over-rows : (accounts : List Account) (rows : List Row) (symbol : Symbol) → IsDistinct (λ a b. same_account a.account b.account) accounts
      → AllByRecursion (IsOfThem accounts) rows
      → counted_on rows symbol ≡ sum_by (λ r. sum_by (λ (a : Account). counted_at a.account symbol r) accounts) rows
  over-rows accounts [] symbol once known = refl
  over-rows accounts (r ∷ rows) symbol once known =
      let of_rows : Row → ℕ = λ r. if same_symbol r.symbol symbol then counted r else 0 in
      let turned : of_rows r ≡ counts r symbol = ap (λ b. if b then counted r else 0) (same_symbol-turned r.symbol symbol) in
      omega (
        arith,
        sum_by-cons of_rows r rows,
        sum_by-cons (λ r. sum_by (λ (a : Account). counted_at a.account symbol r) accounts) r rows,
        turned,
        one-row-counts r symbol accounts once known.0,
        over-rows accounts rows symbol once known.1,
      )

  -- the count over all rows of an instrument is the sum over the accounts
  pub over-accounts : (accounts : List Account) (rows : List Row) (symbol : Symbol) → IsDistinct (λ a b. same_account a.account b.account) accounts → IsDistinct same_row rows
      → AllByRecursion (IsOfThem accounts) rows
      → counted_on rows symbol ≡ sum_by (λ (a : Account). counted_in rows a.account symbol) accounts
  over-accounts accounts rows symbol own once known =
      over-rows accounts rows symbol own known
      ∙ sym (sum_by-swap (λ (a : Account) (r : Row). counted_at a.account symbol r) accounts rows)
      ∙ sum_by-agree (λ (a : Account). sum_by (counted_at a.account symbol) rows) (λ (a : Account). counted_in rows a.account symbol) accounts
      (λ a. one-row rows a.account symbol once)
