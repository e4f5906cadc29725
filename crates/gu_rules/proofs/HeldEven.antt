-- Over all accounts, as many lots are held long as short.
use Rattle.gu_rules.proofs.Words.{◌≡◌, ℕ, ◌+◌, ◌&&◌, Bool, true, false, List, [], ◌∷◌, sum_by, Option, Some, is_some, if◌then◌else◌, refl, sym, ap, ◌∙◌, subst, arith, inl, inr, AllByRecursion, IsDistinct, option_map_or, cases_Bool, sum_by-cons, sum_by-add, sum_by-agree, sum_by-swap, same_account-true, same_account, same_side, same_symbol, AccountId, Entry, Offer, Report, Side, Buy, Sell, Symbol, account_row, Tables, Account, Row, is_of_trade, is_by, offers_of, standing_from, standing_of, AreWithin, IsCovered, LongIsShort, brought, held_in, held_of, is_from, is_on, moved_into, moved_out, report_after, traded, reports_of}
use Rattle.gu_rules.specs.Laws.{GivesUpTrade}
use Rattle.gu_rules.proofs.ChangedSums.{moved_out-le-traded}
use Rattle.gu_rules.proofs.GivenTrades.{IsSourced, alone-if, traded_on}
use Rattle.gu_rules.proofs.KnownOnes.{all-found, is_there}

-- an offer whose account and whose report's account are in the reference
pub record IsBetween (reference : Tables) (reports : List Report) (row : Row) : Type 0 where
  pub into : is_there reference row.offer.account
  pub report : Report
  pub behind : report_after reports row ≡ Some report
  pub from : is_there reference report.account

-- each offer of a history is one
all-between : (reference : Tables) (history : List Entry) → IsSourced reference history → AllByRecursion (IsBetween reference (reports_of history)) (standing_of history)
all-between reference history sourced = go 1 (offers_of history) sourced.offers
  where
    go : (n : ℕ) (offers : List Offer) → AllByRecursion (GivesUpTrade reference (reports_of history)) offers → AllByRecursion (IsBetween reference (reports_of history)) (standing_from history n offers)
    go n [] all = tt
    go n (o ∷ offers) all =
        let f = all.0 in (
          record {
            into = f.account;
            report = f.report;
            behind = f.found;
            from = all-found (λ (q : Report). is_there reference q.account) (is_by o.firm o.report) (reports_of history) f.report sourced.reports f.found;
          },
          go (n + 1) offers all.1,
        )

module _ (reference : Tables) (once : IsDistinct (λ a b. same_account a.account b.account) reference.accounts) (symbol : Symbol) (side : Side) (reports : List Report) where
  -- the lots moved from an offer of this side and instrument
  abbrev moved_on : Row → ℕ
  moved_on row = if is_on reports side symbol row then row.moved else 0

  -- they are moved into one account
  into-once : (row : Row) → IsBetween reference reports row → sum_by (λ (a : Account). if is_on reports side symbol row && same_account row.offer.account a.account then row.moved else 0) reference.accounts ≡ moved_on row
  into-once row b = alone-if reference.accounts once symbol (is_on reports side symbol row) row.offer.account row.moved b.into

  -- and out of one
  out-once : (row : Row) → IsBetween reference reports row → sum_by (λ (a : Account). if is_on reports side symbol row && is_from reports a.account row then row.moved else 0) reference.accounts ≡ moved_on row
  out-once row b =
      sum_by-agree (λ (a : Account). if is_on reports side symbol row && is_from reports a.account row then row.moved else 0)
      (λ (a : Account). if is_on reports side symbol row && same_account b.report.account a.account then row.moved else 0) reference.accounts
      (λ a. ap (λ (q : Option Report). if is_on reports side symbol row && option_map_or (λ (r : Report). same_account r.account a.account) q false then row.moved else 0) b.behind)
      ∙ alone-if reference.accounts once symbol (is_on reports side symbol row) b.report.account row.moved b.from

  -- over all accounts, as many lots were moved into as out of them
  same-moved : (rows : List Row) → AllByRecursion (IsBetween reference reports) rows
      → sum_by (λ (a : Account). moved_into reports rows side a.account symbol) reference.accounts ≡ sum_by (λ (a : Account). moved_out reports rows side a.account symbol) reference.accounts
  same-moved rows between =
      let into : Account → Row → ℕ = λ a row. if is_on reports side symbol row && same_account row.offer.account a.account then row.moved else 0 in
      let out : Account → Row → ℕ = λ a row. if is_on reports side symbol row && is_from reports a.account row then row.moved else 0 in
      sum_by-swap into reference.accounts rows ∙ each rows between ∙ sym (sum_by-swap out reference.accounts rows)
    where
      each : (rows : List Row) → AllByRecursion (IsBetween reference reports) rows
          → sum_by (λ (row : Row). sum_by (λ (a : Account). if is_on reports side symbol row && same_account row.offer.account a.account then row.moved else 0) reference.accounts) rows
          ≡ sum_by (λ (row : Row). sum_by (λ (a : Account). if is_on reports side symbol row && is_from reports a.account row then row.moved else 0) reference.accounts) rows
      each [] all = refl
      each (row ∷ rows) all =
          let f : Row → ℕ = λ row. sum_by (λ (a : Account). if is_on reports side symbol row && same_account row.offer.account a.account then row.moved else 0) reference.accounts in
          let g : Row → ℕ = λ row. sum_by (λ (a : Account). if is_on reports side symbol row && is_from reports a.account row then row.moved else 0) reference.accounts in
          let one : f row ≡ g row = into-once row all.0 ∙ sym (out-once row all.0) in
          omega (arith, sum_by-cons f row rows, sum_by-cons g row rows, one, each rows all.1)

  -- so the total held was brought by trades
  held-traded : (rows : List Row) → AllByRecursion (IsBetween reference reports) rows → IsCovered reports rows → AreWithin rows
      → sum_by (λ (a : Account). held_in reports rows side a.account symbol) reference.accounts ≡ traded_on reference.accounts once symbol reports side
  held-traded rows between covered within =
      let held : Account → ℕ = λ a. held_in reports rows side a.account symbol in
      let brought : Account → ℕ = λ a. traded reports side a.account symbol in
      let into : Account → ℕ = λ a. moved_into reports rows side a.account symbol in
      let out : Account → ℕ = λ a. moved_out reports rows side a.account symbol in
      omega (
        arith,
        sum_by-add held out reference.accounts,
        sum_by-agree (λ a. held a + out a) (λ a. brought a + into a) reference.accounts (λ a. omega (arith, moved_out-le-traded reports rows side a.account symbol covered within)),
        sum_by-add brought into reference.accounts,
        same-moved rows between,
      )

-- as many lots are held long as short
pub held-even : (reference : Tables) (history : List Entry) → IsDistinct (λ a b. same_account a.account b.account) reference.accounts → IsSourced reference history
    → IsCovered (reports_of history) (standing_of history) → AreWithin (standing_of history) → LongIsShort (record { reference = reference; history = history })
held-even reference history once sourced covered within symbol =
    let between = all-between reference history sourced in
    held-traded reference once symbol Buy (reports_of history) (standing_of history) between covered within
    ∙ sourced.even once symbol
    ∙ sym (held-traded reference once symbol Sell (reports_of history) (standing_of history) between covered within)

-- ---- accounts that aren't in the reference

module _ (reference : Tables) (account : AccountId) (none : is_some (account_row reference account) ≡ false) (side : Side) (symbol : Symbol) where
  -- an account in the reference is a different one
  another : (name : AccountId) → is_there reference name → same_account name account ≡ false
  another name there =
      elim (cases_Bool (same_account name account)) [
        | inl hit ↦ let no : true ≡ false = sym (subst (is_there reference) (same_account-true name account hit) there) ∙ none in cc
        | inr miss ↦ miss
      ]

  -- so no trade brought it lots
  none-brought : (all reports : List Report) → AllByRecursion (λ (r : Report). is_there reference r.account) reports → sum_by (brought all side account symbol) reports ≡ 0
  none-brought all [] known = refl
  none-brought all (r ∷ reports) known =
      let own : brought all side account symbol r ≡ 0 = rw (another r.account known.0) (by (same_side r.side side) (same_symbol r.symbol symbol) (is_of_trade all r) r.lots) in
      omega (arith, sum_by-cons (brought all side account symbol) r reports, own, none-brought all reports known.1)
    where
      by : (b c d : Bool) (lots : ℕ) → (if b && false && c && d then lots else 0) ≡ 0
      by true c d lots = refl
      by false c d lots = refl

  -- and none were moved into it
  none-moved : (reports : List Report) (rows : List Row) → AllByRecursion (IsBetween reference reports) rows → moved_into reports rows side account symbol ≡ 0
  none-moved reports [] between = refl
  none-moved reports (row ∷ rows) between =
      let into : Row → ℕ = λ row. if is_on reports side symbol row && same_account row.offer.account account then row.moved else 0 in
      let own : into row ≡ 0 = rw (another row.offer.account between.0.into) (by (is_on reports side symbol row) row.moved) in
      omega (arith, sum_by-cons into row rows, own, none-moved reports rows between.1)
    where
      by : (b : Bool) (lots : ℕ) → (if b && false then lots else 0) ≡ 0
      by true lots = refl
      by false lots = refl

  -- it holds nothing
  pub none-held : (history : List Entry) → IsSourced reference history → held_of history side account symbol ≡ 0
  none-held history sourced =
      let reports = reports_of history in
      omega (arith, none-brought reports reports sourced.reports, none-moved reports (standing_of history) (all-between reference history sourced))
