-- No more of a report is given up than it traded, after one more entry.
use Rattle.gu_rules.proofs.Words.{◌≡◌, ℕ, zero, ◌+◌, ◌-◌, ◌≤◌, ◌&&◌, Bool, true, false, List, [], ◌∷◌, map, sum_by, Some, refl, sym, ap, ◌∙◌, arith, if◌then◌else◌, inl, inr, subst, cases_Bool, sum_by-append, sum_by-cons, same_firm-true, same_id-true, lots_in_all, same_firm, same_id, FirmId, Group, Id, Line, Offer, Report, along, along2, both, is_of_trade, report_by, changed, closed, next_day, offered, reversed, taken, with_lines, Row, counted_of, counted_under, is_of_report, row_at, AreOwn, IsCovered, lots_traded}
use Rattle.gu_rules.proofs.ChangedSums.{sum-changed}

-- the lots of a report that one offer holds
abbrev held : FirmId → Id → Row → ℕ
held firm id r = if is_of_report firm id r then counted_of r else 0

less-where : (b : Bool) (m n : ℕ) → m ≤ n → (if b then m else 0) ≤ (if b then n else 0)
less-where true m n h = h
less-where false m n h = omega arith

-- if one offer comes to hold no more, no more of any report is given up
pub covered-changed : (reports : List Report) (rows : List Row) (n : ℕ) (row : Row) (change : Row → Row) → row_at rows n ≡ Some row → (change row).offer ≡ row.offer
    → counted_of (change row) ≤ counted_of row → IsCovered reports rows → IsCovered reports (changed rows n change)
covered-changed reports rows n row change at same less covered =
    along (λ (q : Report). counted_under rows q.firm q.id ≤ lots_traded reports q) (λ q. counted_under (changed rows n change) q.firm q.id ≤ lots_traded reports q) reports
    (λ q h.
    let sums = sum-changed (held q.firm q.id) rows n row change at in
    let fewer : held q.firm q.id (change row) ≤ held q.firm q.id row =
    subst (λ (o : Offer). (if same_firm o.firm q.firm && same_id o.report q.id then counted_of (change row) else 0) ≤ held q.firm q.id row) (sym same)
    (less-where (is_of_report q.firm q.id row) (counted_of (change row)) (counted_of row) less) in
    omega (arith, sums, fewer, h))
    covered

-- taking lots from an offer that isn't closed, closing one, and taking lots back
pub covered-taken : (reports : List Report) (rows : List Row) (n : ℕ) (row : Row) (lots : ℕ) → row_at rows n ≡ Some row → row.is_shut ≡ false → IsCovered reports rows
    → IsCovered reports (changed rows n (taken lots))
covered-taken reports rows n row lots at stands covered =
    covered-changed reports rows n row (taken lots) at refl (by row.is_shut row.moved row.offer.lots stands) covered
  where
    by : (b : Bool) (m most : ℕ) → b ≡ false → (if b then m + lots else most) ≤ (if b then m else most)
    by true m most e = cc
    by false m most e = omega arith

pub covered-closed : (reports : List Report) (rows : List Row) (n : ℕ) (row : Row) → row_at rows n ≡ Some row → row.moved ≤ row.offer.lots → IsCovered reports rows
    → IsCovered reports (changed rows n closed)
covered-closed reports rows n row at within covered =
    covered-changed reports rows n row closed at refl (by row.is_shut row.moved row.offer.lots within) covered
  where
    by : (b : Bool) (m most : ℕ) → m ≤ most → m ≤ (if b then m else most)
    by true m most h = omega arith
    by false m most h = h

pub covered-reversed : (reports : List Report) (rows : List Row) (n : ℕ) (row : Row) → row_at rows n ≡ Some row → row.moved ≤ row.offer.lots → IsCovered reports rows
    → IsCovered reports (changed rows n reversed)
covered-reversed reports rows n row at within covered =
    covered-changed reports rows n row reversed at refl (by row.is_shut row.moved row.today row.offer.lots within) covered
  where
    by : (b : Bool) (m today most : ℕ) → m ≤ most → m - today ≤ (if b then m else most)
    by true m today most h = omega arith
    by false m today most h = omega (arith, h)

-- opening a day
pub covered-next_day : (reports : List Report) (rows : List Row) → IsCovered reports rows → IsCovered reports (map next_day rows)
covered-next_day reports rows covered =
    along (λ (q : Report). counted_under rows q.firm q.id ≤ lots_traded reports q) (λ q. counted_under (map next_day rows) q.firm q.id ≤ lots_traded reports q) reports
    (λ q h. omega (arith, same q.firm q.id rows, h)) covered
  where
    same : (firm : FirmId) (id : Id) (rows : List Row) → sum_by (held firm id) (map next_day rows) ≡ sum_by (held firm id) rows
    same firm id [] = refl
    same firm id (row ∷ rows) = omega (arith, sum_by-cons (held firm id) (next_day row) (map next_day rows), sum_by-cons (held firm id) row rows, same firm id rows)

-- the lots of a report that new offers hold: all lines, or none
lines-held : (firm : FirmId) (id : Id) (by : FirmId) (own : Id) (group : Group) (lines : List Line)
    → sum_by (held firm id) (map (offered by own group) lines) ≡ (if same_firm by firm && same_id own id then lots_in_all lines else 0)
lines-held firm id by own group [] = sym (nothing (same_firm by firm && same_id own id))
  where
    nothing : (b : Bool) → (if b then zero else zero) ≡ zero
    nothing true = refl
    nothing false = refl
lines-held firm id by own group (line ∷ lines) =
    let mine = same_firm by firm && same_id own id in
    let one : held firm id (offered by own group line) ≡ (if mine then line.lots else 0) = refl in
    let all : (if mine then lots_in_all (line ∷ lines) else 0) ≡ (if mine then line.lots + lots_in_all lines else 0) =
    ap (λ (n : ℕ). if mine then n else 0) (sum_by-cons (λ (l : Line). l.lots) line lines) in
    omega (
      arith,
      sum_by-cons (held firm id) (offered by own group line) (map (offered by own group) lines),
      lines-held firm id by own group lines,
      one,
      all,
      apart mine line.lots (lots_in_all lines),
    )
  where
    apart : (b : Bool) (m n : ℕ) → (if b then m + n else 0) ≡ (if b then m else 0) + (if b then n else 0)
    apart true m n = refl
    apart false m n = refl

-- new offers of a matched report that has lots free for them
pub covered-with_lines : (reports : List Report) (rows : List Row) (report : Report) (group : Group) (lines : List Line) → report_by reports report.firm report.id ≡ Some report
    → is_of_trade reports report ≡ true → lots_in_all lines ≤ report.lots - counted_under rows report.firm report.id → AreOwn reports → IsCovered reports rows
    → IsCovered reports (with_lines rows report.firm report.id group lines)
covered-with_lines reports rows report group lines there matched free own covered =
    along2 (λ (q : Report). report_by reports q.firm q.id ≡ Some q) (λ q. counted_under rows q.firm q.id ≤ lots_traded reports q)
    (λ q. counted_under (with_lines rows report.firm report.id group lines) q.firm q.id ≤ lots_traded reports q) reports one own covered
  where
    own_lots : lots_traded reports report ≡ report.lots
    own_lots = rw matched refl

    same : (q : Report) → report_by reports q.firm q.id ≡ Some q → (same_firm report.firm q.firm && same_id report.id q.id) ≡ true → q ≡ report
    same q finds hit =
        let parts = both _ _ hit in
        let firms : report.firm ≡ q.firm = same_firm-true report.firm q.firm parts.0 in
        let ids : report.id ≡ q.id = same_id-true report.id q.id parts.1 in
        let found : Some q ≡ Some report = sym finds ∙ (λ i. report_by reports (sym firms i) (sym ids i)) ∙ there in
        cc

    one : (q : Report) → report_by reports q.firm q.id ≡ Some q → counted_under rows q.firm q.id ≤ lots_traded reports q
        → counted_under (with_lines rows report.firm report.id group lines) q.firm q.id ≤ lots_traded reports q
    one q finds h =
        let sums = sum_by-append (held q.firm q.id) rows (map (offered report.firm report.id group) lines) in
        let made = lines-held q.firm q.id report.firm report.id group lines in
        elim (cases_Bool (same_firm report.firm q.firm && same_id report.id q.id)) [
          | inl hit ↦
              let is : q ≡ report = same q finds hit in
              let all : (if same_firm report.firm q.firm && same_id report.id q.id then lots_in_all lines else 0) ≡ lots_in_all lines = rw hit refl in
              let lots : lots_traded reports q ≡ report.lots = ap (lots_traded reports) is ∙ own_lots in
              let counted : counted_under rows q.firm q.id ≡ counted_under rows report.firm report.id = ap (λ (p : Report). counted_under rows p.firm p.id) is in
              omega (arith, sums, made, all, lots, counted, free, h)
          | inr miss ↦
              let none : (if same_firm report.firm q.firm && same_id report.id q.id then lots_in_all lines else 0) ≡ 0 = rw miss refl in
              omega (arith, sums, made, none, h)
        ]
