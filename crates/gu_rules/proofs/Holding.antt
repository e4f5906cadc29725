-- No more of an account's reports is given up than it traded.
use Rattle.gu_rules.proofs.Words.{◌≡◌, ℕ, ◌≤◌, ◌&&◌, Bool, true, false, List, sum_by, Option, Some, None, refl, sym, ◌∙◌, arith, if◌then◌else◌, inl, inr, cases_Bool, sum_by-le-sum_by, same_firm-own, same_firm-true, same_id-own, same_id-true, same_account, same_firm, same_id, same_side, same_symbol, along, sum_by-mono, sum_by-swap, sum_by-zeros, both, AccountId, Report, Side, Symbol, is_of_trade, is_by, Row, counted_of, counted_under, is_of_report, IsCovered, lots_traded, brought, is_from, is_on, report_after, traded}
use Rattle.gu_positions.proofs.Changed.{find-passes, found_within_sum}

-- a report is on this side of this instrument, for this account
abbrev is_at : Side → AccountId → Symbol → Report → Bool
is_at side account symbol r = same_side r.side side && same_account r.account account && same_symbol r.symbol symbol

-- the lots that an offer holds of a report on this side of this instrument, for this account
abbrev pub given_up_by : List Report → Side → AccountId → Symbol → Row → ℕ
given_up_by reports side account symbol row = if is_on reports side symbol row && is_from reports account row then counted_of row else 0

-- the same, from the report
abbrev held_of_report : Side → AccountId → Symbol → Row → Report → ℕ
held_of_report side account symbol row r = if is_at side account symbol r then (if is_of_report r.firm r.id row then counted_of row else 0) else 0

-- an offer gives up a report if it has its firm and its id
is_of_report-by : (row : Row) (r : Report) → is_by row.offer.firm row.offer.report r ≡ true → is_of_report r.firm r.id row ≡ true
is_of_report-by row r by =
    let parts = both _ _ by in
    let firms = sym (same_firm-true r.firm row.offer.firm parts.0) in
    let ids = sym (same_id-true r.id row.offer.report parts.1) in
    rw ((λ i. same_firm (firms i) r.firm) ∙ same_firm-own r.firm, (λ i. same_id (ids i) r.id) ∙ same_id-own r.id) refl

-- three tests in either order
three : (p a s : Bool) (m n : ℕ) → ((p && a && s) ≡ true → m ≤ n) → (if p && s && a then m else 0) ≤ n
three true true true m n h = h refl
three true true false m n h = omega arith
three true false true m n h = omega arith
three true false false m n h = omega arith
three false a s m n h = omega arith

-- what an offer holds is held of one of the reports
given-le : (reports : List Report) (side : Side) (account : AccountId) (symbol : Symbol) (row : Row)
    → given_up_by reports side account symbol row ≤ sum_by (held_of_report side account symbol row) reports
given-le reports side account symbol row = by (report_after reports row) refl
  where
    by : (found : Option Report) → report_after reports row ≡ found → given_up_by reports side account symbol row ≤ sum_by (held_of_report side account symbol row) reports
    by None e = rw e (omega arith)
    by (Some r) e =
        rw e
        (three (same_side r.side side) (same_account r.account account) (same_symbol r.symbol symbol) (counted_of row) (sum_by (held_of_report side account symbol row) reports)
        (λ hit.
        let one = found_within_sum (is_by row.offer.firm row.offer.report) (held_of_report side account symbol row) reports r e in
        let mine = is_of_report-by row r (find-passes (is_by row.offer.firm row.offer.report) reports r e) in
        let all : held_of_report side account symbol row r ≡ counted_of row = rw (hit, mine) refl in
        omega (arith, one, all)))

-- the lots that all offers hold of one report, on this side of this instrument, for this account
held-under : (rows : List Row) (side : Side) (account : AccountId) (symbol : Symbol) (r : Report)
    → sum_by (λ row. held_of_report side account symbol row r) rows ≡ (if is_at side account symbol r then counted_under rows r.firm r.id else 0)
held-under rows side account symbol r =
    elim (cases_Bool (is_at side account symbol r)) [
      | inl hit ↦ rw hit refl
      | inr miss ↦ rw miss (sum_by-zeros rows)
    ]

-- they are at most those that it brought
held-le : (reports : List Report) (rows : List Row) (side : Side) (account : AccountId) (symbol : Symbol) (r : Report)
    → counted_under rows r.firm r.id ≤ lots_traded reports r
    → sum_by (λ row. held_of_report side account symbol row r) rows ≤ brought reports side account symbol r
held-le reports rows side account symbol r covered =
    omega (arith, held-under rows side account symbol r, four (is_at side account symbol r) (is_of_trade reports r) (counted_under rows r.firm r.id) r.lots covered)
  where
    four : (p q : Bool) (m n : ℕ) → m ≤ (if q then n else 0) → (if p then m else 0) ≤ (if p && q then n else 0)
    four true true m n h = h
    four true false m n h = h
    four false q m n h = omega arith

-- no more of an account's reports is given up than it traded
pub given_up-le-traded : (reports : List Report) (rows : List Row) (side : Side) (account : AccountId) (symbol : Symbol) → IsCovered reports rows
    → sum_by (given_up_by reports side account symbol) rows ≤ traded reports side account symbol
given_up-le-traded reports rows side account symbol covered =
    let by_row = sum_by-le-sum_by (given_up_by reports side account symbol) (λ row. sum_by (held_of_report side account symbol row) reports) rows (given-le reports side account symbol) in
    let swapped = sum_by-swap (λ row r. held_of_report side account symbol row r) rows reports in
    let by_report = sum_by-mono (λ r. sum_by (λ row. held_of_report side account symbol row r) rows) (brought reports side account symbol) reports
    (along (λ (r : Report). counted_under rows r.firm r.id ≤ lots_traded reports r) (λ r. sum_by (λ row. held_of_report side account symbol row r) rows ≤ brought reports side account symbol r)
    reports (held-le reports rows side account symbol) covered) in
    omega (arith, by_row, swapped, by_report)
