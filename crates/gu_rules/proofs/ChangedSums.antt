-- Uses and positions after one offer changes.
use Rattle.gu_rules.proofs.Words.{◌≡◌, ℕ, zero, suc, ◌+◌, ◌≤◌, ◌&&◌, Bool, true, false, List, [], ◌∷◌, map, sum_by, get_or, Some, refl, ap, arith, if◌then◌else◌, slice_set, get_or_from_slice_get, slice_get_within, sum_by-append, sum_by-cons, sum_by-set, AccountId, FirmId, Group, Id, LimitKey, Line, Report, Side, Symbol, along, sum_by-mono, Tables, lots_under, changed, closed, next_day, offered, reversed, taken, with_lines, Row, counted_of, row_at, is_under, path_after, use_in, AreWithin, IsCovered, is_from, is_on, moved_out, traded}
use Rattle.gu_rules.proofs.Holding.{given_up_by, given_up-le-traded}

-- a sum over offers after one is changed
pub sum-changed : (f : Row → ℕ) (rows : List Row) (n : ℕ) (row : Row) (change : Row → Row) → row_at rows n ≡ Some row
    → sum_by f (changed rows n change) + f row ≡ sum_by f rows + f (change row)
sum-changed f rows zero row change at = cc
sum-changed f rows (suc place) row change at =
    let within = slice_get_within rows place row at in
    let here : get_or rows place row ≡ row = get_or_from_slice_get rows place row row at in
    let set : sum_by f (changed rows (suc place) change) ≡ sum_by f (slice_set rows place (change row)) = rw at refl in
    omega (arith, set, sum_by-set f rows place (change row) row within, ap f here)

-- a sum over offers followed by new ones, each of which adds nothing
pub sum-with_lines : (f : Row → ℕ) (rows : List Row) (firm : FirmId) (report : Id) (group : Group) (lines : List Line)
    → ((line : Line) → f (offered firm report group line) ≡ 0) → sum_by f (with_lines rows firm report group lines) ≡ sum_by f rows
sum-with_lines f rows firm report group lines nothing =
    omega (arith, sum_by-append f rows (map (offered firm report group) lines), more lines)
  where
    more : (lines : List Line) → sum_by f (map (offered firm report group) lines) ≡ 0
    more [] = refl
    more (line ∷ lines) = omega (arith, sum_by-cons f (offered firm report group line) (map (offered firm report group) lines), nothing line, more lines)

pub either-nothing : (b : Bool) → (if b then zero else zero) ≡ zero
either-nothing true = refl
either-nothing false = refl

-- ---- uses

-- lots taken from an offer count under the keys of its path
pub use_in-taken : (reference : Tables) (rows : List Row) (n : ℕ) (row : Row) (lots : ℕ) → row_at rows n ≡ Some row → (group : Group) (key : LimitKey)
    → use_in reference (changed rows n (taken lots)) group key ≡ use_in reference rows group key + lots_under row.offer.group (path_after reference row.offer) lots group key
use_in-taken reference rows n row lots at group key =
    omega (arith, sum-changed (λ (r : Row). if is_under reference group key r then r.today else 0) rows n row (taken lots) at, more (is_under reference group key row) row.today lots)
  where
    more : (b : Bool) (today lots : ℕ) → (if b then today + lots else 0) ≡ (if b then today else 0) + (if b then lots else 0)
    more true today lots = refl
    more false today lots = refl

-- lots moved today that go back no longer count
pub use_in-reversed : (reference : Tables) (rows : List Row) (n : ℕ) (row : Row) → row_at rows n ≡ Some row → (group : Group) (key : LimitKey)
    → use_in reference (changed rows n reversed) group key + lots_under row.offer.group (path_after reference row.offer) row.today group key ≡ use_in reference rows group key
use_in-reversed reference rows n row at group key =
    omega (arith, sum-changed (λ (r : Row). if is_under reference group key r then r.today else 0) rows n row reversed at, either-nothing (is_under reference group key row))

-- a closed offer counts as before
pub use_in-closed : (reference : Tables) (rows : List Row) (n : ℕ) (row : Row) → row_at rows n ≡ Some row → (group : Group) (key : LimitKey)
    → use_in reference (changed rows n closed) group key ≡ use_in reference rows group key
use_in-closed reference rows n row at group key =
    omega (arith, sum-changed (λ (r : Row). if is_under reference group key r then r.today else 0) rows n row closed at)

-- new offers don't count
pub use_in-with_lines : (reference : Tables) (rows : List Row) (firm : FirmId) (report : Id) (at : Group) (lines : List Line) (group : Group) (key : LimitKey)
    → use_in reference (with_lines rows firm report at lines) group key ≡ use_in reference rows group key
use_in-with_lines reference rows firm report at lines group key =
    sum-with_lines (λ (r : Row). if is_under reference group key r then r.today else 0) rows firm report at lines
    (λ line. either-nothing (is_under reference group key (offered firm report at line)))

-- nothing counts when a day is opened
pub use_in-next_day : (reference : Tables) (rows : List Row) (group : Group) (key : LimitKey) → use_in reference (map next_day rows) group key ≡ 0
use_in-next_day reference [] group key = refl
use_in-next_day reference (row ∷ rows) group key =
    omega (
      arith,
      sum_by-cons (λ (r : Row). if is_under reference group key r then r.today else 0) (next_day row) (map next_day rows),
      either-nothing (is_under reference group key row),
      use_in-next_day reference rows group key,
    )

-- what one offer counts is at most the use
pub today-le-use_in : (reference : Tables) (rows : List Row) (n : ℕ) (row : Row) → row_at rows n ≡ Some row → (group : Group) (key : LimitKey)
    → is_under reference group key row ≡ true → row.today ≤ use_in reference rows group key
today-le-use_in reference rows n row at group key under =
    let counts : (if is_under reference group key row then row.today else 0) ≡ row.today = rw under refl in
    omega (arith, sum-changed (λ (r : Row). if is_under reference group key r then r.today else 0) rows n row reversed at, counts, either-nothing (is_under reference group key row))

-- ---- positions

moved-le-counted : (r : Row) → r.moved ≤ r.offer.lots → r.moved ≤ counted_of r
moved-le-counted r within = by r.is_shut r.moved r.offer.lots within
  where
    by : (b : Bool) (m n : ℕ) → m ≤ n → m ≤ (if b then m else n)
    by true m n h = omega arith
    by false m n h = h

-- the lots moved out of an account are at most those it traded
pub moved_out-le-traded : (reports : List Report) (rows : List Row) (side : Side) (account : AccountId) (symbol : Symbol) → IsCovered reports rows → AreWithin rows
    → moved_out reports rows side account symbol ≤ traded reports side account symbol
moved_out-le-traded reports rows side account symbol covered within =
    let less = sum_by-mono (λ (row : Row). if is_on reports side symbol row && is_from reports account row then row.moved else 0) (given_up_by reports side account symbol) rows
    (along (λ (r : Row). r.moved ≤ r.offer.lots) (λ r. (if is_on reports side symbol r && is_from reports account r then r.moved else 0) ≤ given_up_by reports side account symbol r)
    rows (λ r h. by (is_on reports side symbol r && is_from reports account r) r.moved (counted_of r) (moved-le-counted r h)) within) in
    omega (arith, less, given_up-le-traded reports rows side account symbol covered)
  where
    by : (b : Bool) (m n : ℕ) → m ≤ n → (if b then m else 0) ≤ (if b then n else 0)
    by true m n h = h
    by false m n h = omega arith
