-- How changes of offers affect the lots of reports that they hold.
use Rattle.gu_book.proofs.Words.{◌≡◌, ℕ, zero, suc, ◌+◌, ◌-◌, ◌*◌, ◌≤◌, ◌&&◌, Bool, true, false, List, [], ◌∷◌, length, map, refl, sym, ap, arith, if◌then◌else◌, slice_get, Some, AllByRecursion, sum_by-cons, closed, next_day, offered, reversed, taken, IsSound, Row, counted_of, counted_under, is_of_report, left_of, FirmId, Group, Id, Line, same_firm, same_id}
use Rattle.std.proofs.Common.{set}
use Rattle.gu_terms.specs.Lines.{lots_in_all}

as_before : (b : Bool) (m l lots : ℕ) → lots ≤ (if b then 0 else l - m) → (if b then m else l) ≡ (if b then m + lots else l) + 0
as_before true m l lots h = omega arith
as_before false m l lots h = omega arith

-- a move doesn't change the lots held of the report
pub counted-taken : (r : Row) (lots : ℕ) → lots ≤ left_of r → counted_of r ≡ counted_of (taken lots r) + 0
counted-taken r lots h = as_before r.is_shut r.moved r.offer.lots lots h

closing : (b : Bool) (m l : ℕ) → m ≤ l → (if b then m else l) ≡ m + (if b then 0 else l - m)
closing true m l h = omega arith
closing false m l h = omega arith

-- what is left of an offer is no longer held after it is closed
pub counted-closed : (r : Row) → IsSound r → counted_of r ≡ counted_of (closed r) + left_of r
counted-closed r sound = closing r.is_shut r.moved r.offer.lots sound.moved

reversing : (b : Bool) (m l today : ℕ) → m ≤ l → today ≤ m → (if b then 0 else l - m) ≡ 0 → (if b then m else l) ≡ m - today + today
reversing true m l today h k left = omega arith
reversing false m l today h k left = omega arith

-- what is taken back of a closed offer is no longer held
pub counted-reversed : (r : Row) → IsSound r → left_of r ≡ 0 → counted_of r ≡ counted_of (reversed r) + r.today
counted-reversed r sound left = reversing r.is_shut r.moved r.offer.lots r.today sound.moved sound.today left

counted_within : (b c : Bool) (moved lots : ℕ) → moved ≤ lots → lots ≤ 1000000 → (if c then (if b then moved else lots) else 0) ≤ 1000000
counted_within true true moved lots h k = omega arith
counted_within false true moved lots h k = omega arith
counted_within b false moved lots h k = omega arith

-- fewer than 2^64 lots of a report are held
pub counted-few : (rows : List Row) (firm : FirmId) (id : Id) → AllByRecursion IsSound rows → counted_under rows firm id ≤ 1000000 * length rows
counted-few [] firm id sound = omega arith
counted-few (r ∷ rows) firm id sound =
    omega (
      arith,
      sum_by-cons (λ x. if is_of_report firm id x then counted_of x else 0) r rows,
      counted-few rows firm id sound.1,
      counted_within r.is_shut (is_of_report firm id r) r.moved r.offer.lots sound.0.moved sound.0.lots.most,
    )

-- a new day changes none of them
pub counted-next : (rows : List Row) (firm : FirmId) (id : Id) → counted_under (map next_day rows) firm id ≡ counted_under rows firm id
counted-next [] firm id = refl
counted-next (r ∷ rows) firm id =
    let f : Row → ℕ = λ x. if is_of_report firm id x then counted_of x else 0 in
    omega (arith, sum_by-cons f (next_day r) (map next_day rows), sum_by-cons f r rows, counted-next rows firm id)

module _ (firm : FirmId) (report : Id) where
  -- a row that counts less
  pub counted-set : (rows : List Row) (place : ℕ) (old new : Row) (less : ℕ) → slice_get rows place ≡ Some old → new.offer ≡ old.offer → counted_of old ≡ counted_of new + less
      → counted_under (set rows place new) firm report + (if is_of_report firm report old then less else 0) ≡ counted_under rows firm report
  counted-set [] place old new less at own less_is = cc
  counted-set (r ∷ rows) zero old new less at own less_is =
      let one : r ≡ old = cc in
      let f : Row → ℕ = λ x. if is_of_report firm report x then counted_of x else 0 in
      let same : is_of_report firm report new ≡ is_of_report firm report old = λ i. same_firm (own i).firm firm && same_id (own i).report report in
      omega (arith, sum_by-cons f new rows, sum_by-cons f r rows, ap f one, by (is_of_report firm report old) (is_of_report firm report new) same)
    where
      by : (b c : Bool) → c ≡ b → (if c then counted_of new else 0) + (if b then less else 0) ≡ (if b then counted_of old else 0)
      by true true e = sym less_is
      by false false e = refl
      by true false e = cc
      by false true e = cc
  counted-set (r ∷ rows) (suc place) old new less at own less_is =
      let f : Row → ℕ = λ x. if is_of_report firm report x then counted_of x else 0 in
      omega (arith, sum_by-cons f r rows, sum_by-cons f r (set rows place new), counted-set rows place old new less at own less_is)

module _ (firm : FirmId) (report : Id) (group : Group) where
  -- the lots of the lines
  pub counted-offered : (lines : List Line) (other : FirmId) (another : Id)
      → counted_under (map (offered firm report group) lines) other another ≡ (if same_firm firm other && same_id report another then lots_in_all lines else 0)
  counted-offered [] other another = none (same_firm firm other && same_id report another)
    where
      none : (b : Bool) → ◌≡◌ {A = ℕ} 0 (if b then 0 else 0)
      none true = refl
      none false = refl
  counted-offered (line ∷ lines) other another =
      by (same_firm firm other && same_id report another) (counted-offered lines other another)
      (sum_by-cons (λ r. if is_of_report other another r then counted_of r else 0) (offered firm report group line) (map (offered firm report group) lines))
      (sum_by-cons (λ (l : Line). l.lots) line lines)
    where
      by : (b : Bool) → counted_under (map (offered firm report group) lines) other another ≡ (if b then lots_in_all lines else 0)
          → counted_under (map (offered firm report group) (line ∷ lines)) other another ≡ (if b then line.lots else 0) + counted_under (map (offered firm report group) lines) other another
          → lots_in_all (line ∷ lines) ≡ line.lots + lots_in_all lines
          → counted_under (map (offered firm report group) (line ∷ lines)) other another ≡ (if b then lots_in_all (line ∷ lines) else 0)
      by true rest all lots = omega (arith, rest, all, lots)
      by false rest all lots = omega (arith, rest, all)
