-- Positions after one offer changes.
use Rattle.gu_rules.proofs.Words.{◌≡◌, ℕ, ◌+◌, ◌-◌, ◌≤◌, ◌&&◌, Bool, true, false, List, [], ◌∷◌, map, sum_by, Some, refl, arith, if◌then◌else◌, sum_by-cons, same_account, same_side, same_symbol, AccountId, FirmId, Group, Id, Line, Report, Side, Symbol, lots_at, changed, closed, next_day, offered, reversed, taken, with_lines, Row, row_at, AreWithin, IsCovered, held_in, is_from, is_on, moved_into, moved_out, report_after}
use Rattle.gu_rules.proofs.ChangedSums.{moved_out-le-traded, sum-changed, sum-with_lines, either-nothing}

-- lots on a side of an instrument, with the three tests in either order
turned : (p s a : Bool) (n : ℕ) → (if (p && s) && a then n else 0) ≡ (if p && (a && s) then n else 0)
turned true true true n = refl
turned true true false n = refl
turned true false true n = refl
turned true false false n = refl
turned false s a n = refl

-- more lots, if a test passes
more : (b : Bool) (m n : ℕ) → (if b then m + n else 0) ≡ (if b then m else 0) + (if b then n else 0)
more true m n = refl
more false m n = refl

-- fewer lots, if a test passes
fewer : (b : Bool) (m n : ℕ) → n ≤ m → (if b then m - n else 0) + (if b then n else 0) ≡ (if b then m else 0)
fewer true m n h = omega (arith, h)
fewer false m n h = refl

module _ (reports : List Report) (rows : List Row) (n : ℕ) (row : Row) (at : row_at rows n ≡ Some row) (side : Side) (account : AccountId) (symbol : Symbol) where
  abbrev into_it : Row → Bool
  into_it r = is_on reports side symbol r && same_account r.offer.account account

  abbrev out_of_it : Row → Bool
  out_of_it r = is_on reports side symbol r && is_from reports account r

  -- lots taken from an offer are moved in
  into-taken : (lots : ℕ) → moved_into reports (changed rows n (taken lots)) side account symbol ≡ moved_into reports rows side account symbol + (if into_it row then lots else 0)
  into-taken lots = omega (arith, sum-changed (λ (r : Row). if into_it r then r.moved else 0) rows n row (taken lots) at, more (into_it row) row.moved lots)

  -- and moved out
  out-taken : (lots : ℕ) → moved_out reports (changed rows n (taken lots)) side account symbol ≡ moved_out reports rows side account symbol + (if out_of_it row then lots else 0)
  out-taken lots = omega (arith, sum-changed (λ (r : Row). if out_of_it r then r.moved else 0) rows n row (taken lots) at, more (out_of_it row) row.moved lots)

  -- what is reversed was moved in
  into-reversed : row.today ≤ row.moved → moved_into reports (changed rows n reversed) side account symbol + (if into_it row then row.today else 0) ≡ moved_into reports rows side account symbol
  into-reversed within = omega (arith, sum-changed (λ (r : Row). if into_it r then r.moved else 0) rows n row reversed at, fewer (into_it row) row.moved row.today within)

  -- and moved out
  out-reversed : row.today ≤ row.moved → moved_out reports (changed rows n reversed) side account symbol + (if out_of_it row then row.today else 0) ≡ moved_out reports rows side account symbol
  out-reversed within = omega (arith, sum-changed (λ (r : Row). if out_of_it r then r.moved else 0) rows n row reversed at, fewer (out_of_it row) row.moved row.today within)

  -- the account that the lots go to, by the report
  into-at : (r : Report) (lots : ℕ) → report_after reports row ≡ Some r → (if into_it row then lots else 0) ≡ lots_at r.side row.offer.account r.symbol lots side account symbol
  into-at r lots behind = rw behind (turned (same_side r.side side) (same_symbol r.symbol symbol) (same_account row.offer.account account) lots)

  -- the account that the lots come from
  out-at : (r : Report) (lots : ℕ) → report_after reports row ≡ Some r → (if out_of_it row then lots else 0) ≡ lots_at r.side r.account r.symbol lots side account symbol
  out-at r lots behind = rw behind (turned (same_side r.side side) (same_symbol r.symbol symbol) (same_account r.account account) lots)

  -- when lots are taken from an offer, they leave the account of its report for its own
  pub held_in-taken : (r : Report) (lots : ℕ) → report_after reports row ≡ Some r → IsCovered reports (changed rows n (taken lots)) → AreWithin (changed rows n (taken lots))
      → held_in reports (changed rows n (taken lots)) side account symbol
      ≡ held_in reports rows side account symbol - lots_at r.side r.account r.symbol lots side account symbol + lots_at r.side row.offer.account r.symbol lots side account symbol
  held_in-taken r lots behind covered within =
      omega (
        arith,
        into-taken lots,
        out-taken lots,
        into-at r lots behind,
        out-at r lots behind,
        moved_out-le-traded reports (changed rows n (taken lots)) side account symbol covered within,
      )

  -- that account has them
  pub held_in-has : (r : Report) (lots : ℕ) → report_after reports row ≡ Some r → IsCovered reports (changed rows n (taken lots)) → AreWithin (changed rows n (taken lots))
      → lots_at r.side r.account r.symbol lots side account symbol ≤ held_in reports rows side account symbol
  held_in-has r lots behind covered within =
      omega (arith, out-taken lots, out-at r lots behind, moved_out-le-traded reports (changed rows n (taken lots)) side account symbol covered within)

  -- when they are taken back, they leave its own account for that of its report
  pub held_in-reversed : (r : Report) → report_after reports row ≡ Some r → IsCovered reports rows → AreWithin rows → row.today ≤ row.moved
      → held_in reports (changed rows n reversed) side account symbol
      ≡ held_in reports rows side account symbol - lots_at r.side row.offer.account r.symbol row.today side account symbol + lots_at r.side r.account r.symbol row.today side account symbol
  held_in-reversed r behind covered within moved =
      omega (
        arith,
        into-reversed moved,
        out-reversed moved,
        into-at r row.today behind,
        out-at r row.today behind,
        moved_out-le-traded reports rows side account symbol covered within,
      )

  -- that account has them
  pub held_in-moved : (r : Report) → report_after reports row ≡ Some r → IsCovered reports rows → AreWithin rows → row.today ≤ row.moved
      → lots_at r.side row.offer.account r.symbol row.today side account symbol ≤ held_in reports rows side account symbol
  held_in-moved r behind covered within moved =
      omega (arith, into-reversed moved, into-at r row.today behind, moved_out-le-traded reports rows side account symbol covered within)

  -- closing an offer moves nothing
  pub held_in-closed : held_in reports (changed rows n closed) side account symbol ≡ held_in reports rows side account symbol
  held_in-closed =
      omega (
        arith,
        sum-changed (λ (r : Row). if into_it r then r.moved else 0) rows n row closed at,
        sum-changed (λ (r : Row). if out_of_it r then r.moved else 0) rows n row closed at,
      )

-- new offers move nothing
pub held_in-with_lines : (reports : List Report) (rows : List Row) (firm : FirmId) (report : Id) (group : Group) (lines : List Line) (side : Side) (account : AccountId) (symbol : Symbol)
    → held_in reports (with_lines rows firm report group lines) side account symbol ≡ held_in reports rows side account symbol
held_in-with_lines reports rows firm report group lines side account symbol =
    omega (
      arith,
      sum-with_lines (λ (r : Row). if is_on reports side symbol r && same_account r.offer.account account then r.moved else 0) rows firm report group lines
          (λ line. either-nothing (is_on reports side symbol (offered firm report group line) && same_account line.account account)),
      sum-with_lines (λ (r : Row). if is_on reports side symbol r && is_from reports account r then r.moved else 0) rows firm report group lines
          (λ line. either-nothing (is_on reports side symbol (offered firm report group line) && is_from reports account (offered firm report group line))),
    )

sum-next_day : (f : Row → ℕ) (rows : List Row) → ((r : Row) → f (next_day r) ≡ f r) → sum_by f (map next_day rows) ≡ sum_by f rows
sum-next_day f [] same = refl
sum-next_day f (row ∷ rows) same =
    omega (arith, sum_by-cons f (next_day row) (map next_day rows), sum_by-cons f row rows, same row, sum-next_day f rows same)

-- opening a day moves nothing
pub held_in-next_day : (reports : List Report) (rows : List Row) (side : Side) (account : AccountId) (symbol : Symbol)
    → held_in reports (map next_day rows) side account symbol ≡ held_in reports rows side account symbol
held_in-next_day reports rows side account symbol =
    omega (
      arith,
      sum-next_day (λ (r : Row). if is_on reports side symbol r && same_account r.offer.account account then r.moved else 0) rows (λ r. refl),
      sum-next_day (λ (r : Row). if is_on reports side symbol r && is_from reports account r then r.moved else 0) rows (λ r. refl),
    )
