-- No group has more than 4,096 open offers, and each was made under an agreement: changes that preserve this.
use Rattle.gu_rules.proofs.Words.{◌≡◌, ℕ, zero, suc, ◌+◌, ◌-◌, ◌<◌, ◌≤◌, Bool, true, false, cond, ◌&&◌, List, [], ◌∷◌, ◌++◌, length, map, Option, Some, None, is_some, refl, sym, ap, ◌∙◌, arith, subst, length-append, inl, inr, slice_get, slice_set, AllByRecursion, cases_Bool, lt-ltb, ltb-true, length-map, same_group-true, same_group, FirmId, Group, Id, Line, Offer, agreement_between, Tables, numbers-append, changed, closed, next_day, offered, reversed, taken, with_lines, Row, is_open, is_open_in, left_of, numbers_from, open_count, open_numbers, AreAgreed, AreFew, IsShown}
use Rattle.gu_rules.proofs.OrderlyLemmas.{all-at, all-changed}

-- a change keeps the offer itself, and opens no closed one
pub record IsClosing (change : Row → Row) : Type 0 where
  pub same : (row : Row) → (change row).offer ≡ row.offer
  pub shuts : (row : Row) → is_open (change row) ≡ true → is_open row ≡ true

-- so a changed offer is open in a group only if it was before
still-open : (change : Row → Row) → IsClosing change → (group : Group) (row : Row) → is_open_in group (change row) ≡ true → is_open_in group row ≡ true
still-open change closing group row h = by (same_group (change row).offer.group group) (is_open (change row)) refl refl h
  where
    by : (own open_now : Bool) → same_group (change row).offer.group group ≡ own → is_open (change row) ≡ open_now → (own && open_now) ≡ true → is_open_in group row ≡ true
    by true true own now e = (λ i. ((ap (λ (o : Offer). same_group o.group group) (sym (closing.same row)) ∙ own) i) && (closing.shuts row now i))
    by true false own now e = cc
    by false b own now e = cc

counted : (b : Bool) (n : ℕ) (rest : List ℕ) → length (cond b (n ∷ rest) rest) ≡ length rest + cond b 1 0
counted true n rest = omega arith
counted false n rest = omega arith

-- no more are open
module _ (change : Row → Row) (closing : IsClosing change) (group : Group) where
  fewer : (n : ℕ) (rows : List Row) (place : ℕ) (row : Row) → slice_get rows place ≡ Some row → length (numbers_from n (slice_set rows place (change row)) group) ≤ length (numbers_from n rows group)
  fewer n [] place row at = omega arith
  fewer n (first ∷ rows) zero row at =
      let one : first ≡ row = cc in
      by (is_open_in group (change row)) (is_open_in group first) refl (ap (is_open_in group) one)
    where
      by : (now was : Bool) → is_open_in group (change row) ≡ now → was ≡ is_open_in group row
          → length (cond now (n ∷ numbers_from (n + 1) rows group) (numbers_from (n + 1) rows group)) ≤ length (cond was (n ∷ numbers_from (n + 1) rows group) (numbers_from (n + 1) rows group))
      by true true now was = omega arith
      by true false now was = let open_then = still-open change closing group row now in cc
      by false was now same = omega (arith, counted was n (numbers_from (n + 1) rows group))
  fewer n (first ∷ rows) (suc place) row at =
      omega (
        arith,
        fewer (n + 1) rows place row at,
        counted (is_open_in group first) n (numbers_from (n + 1) (slice_set rows place (change row)) group),
        counted (is_open_in group first) n (numbers_from (n + 1) rows group),
      )

-- the offers with one of them changed
pub shown-changed : (reference : Tables) (rows : List Row) (n : ℕ) (change : Row → Row) → IsClosing change → IsShown reference rows → IsShown reference (changed rows n change)
shown-changed reference rows zero change closing shown = shown
shown-changed reference rows (suc place) change closing shown = by (slice_get rows place) refl
  where
    by : (found : Option Row) → slice_get rows place ≡ found → IsShown reference (changed rows (suc place) change)
    by None e = rw e shown
    by (Some row) e =
        let has : Row → Type 0 = λ r. is_some (agreement_between reference r.offer.firm r.offer.account) ≡ true in
        let mine : is_some (agreement_between reference (change row).offer.firm (change row).offer.account) ≡ true =
        subst (λ (o : Offer). is_some (agreement_between reference o.firm o.account) ≡ true) (sym (closing.same row)) (all-at has rows (suc place) row e shown.agreed) in
        let agreed : AreAgreed reference (changed rows (suc place) change) = all-changed has rows (suc place) row change e mine shown.agreed in
        let few : AreFew (slice_set rows place (change row)) = λ group. omega (arith, fewer change closing group 1 rows place row e, shown.few group) in
        record { few = rw e few; agreed = agreed }

-- after lots are taken from an offer, what is left was left before
taken-closing : (lots : ℕ) → IsClosing (taken lots)
taken-closing lots = record { same = λ row. refl; shuts = λ row h. by row row.is_shut refl (ltb-true 0 (left_of (taken lots row)) h) }
  where
    by : (row : Row) (shut : Bool) → row.is_shut ≡ shut → 0 < left_of (taken lots row) → is_open row ≡ true
    by row true e some = let none : left_of (taken lots row) ≡ 0 = rw e refl in absurd (omega (arith, some, none))
    by row false e some =
        let after : left_of (taken lots row) ≡ row.offer.lots - (row.moved + lots) = rw e refl in
        let before : left_of row ≡ row.offer.lots - row.moved = rw e refl in
        lt-ltb 0 (left_of row) (omega (arith, some, after, before))

-- lots are taken from an offer, by a claim or a sweep
pub shown-taken : (reference : Tables) (rows : List Row) (n lots : ℕ) → IsShown reference rows → IsShown reference (changed rows n (taken lots))
shown-taken reference rows n lots shown = shown-changed reference rows n (taken lots) (taken-closing lots) shown

-- an offer is closed
pub shown-closed : (reference : Tables) (rows : List Row) (n : ℕ) → IsShown reference rows → IsShown reference (changed rows n closed)
shown-closed reference rows n shown = shown-changed reference rows n closed (record { same = λ row. refl; shuts = λ row h. cc }) shown

-- lots are taken back
pub shown-reversed : (reference : Tables) (rows : List Row) (n : ℕ) → IsShown reference rows → IsShown reference (changed rows n reversed)
shown-reversed reference rows n shown = shown-changed reference rows n reversed (record { same = λ row. refl; shuts = λ row h. cc }) shown

-- a day is opened
numbers-next : (n : ℕ) (rows : List Row) (group : Group) → numbers_from n (map next_day rows) group ≡ numbers_from n rows group
numbers-next n [] group = refl
numbers-next n (r ∷ rows) group = ap (λ l. cond (is_open_in group r) (n ∷ l) l) (numbers-next (n + 1) rows group)

pub shown-next_day : (reference : Tables) (rows : List Row) → IsShown reference rows → IsShown reference (map next_day rows)
shown-next_day reference rows shown = record { few = λ group. rw (numbers-next 1 rows group) (shown.few group); agreed = all rows shown.agreed }
  where
    all : (rs : List Row) → AreAgreed reference rs → AreAgreed reference (map next_day rs)
    all [] h = tt
    all (r ∷ rs) h = (h.0, all rs h.1)

-- ---- give-ups

at_most : (b : Bool) (n : ℕ) (rest : List ℕ) → length (cond b (n ∷ rest) rest) ≤ length rest + 1
at_most true n rest = omega arith
at_most false n rest = omega arith

-- no more are open than there are offers
few_numbers : (n : ℕ) (rows : List Row) (group : Group) → length (numbers_from n rows group) ≤ length rows
few_numbers n [] group = omega arith
few_numbers n (r ∷ rows) group = omega (arith, at_most (is_open_in group r) n (numbers_from (n + 1) rows group), few_numbers (n + 1) rows group)

-- none of the lines is an offer in another group
no_others : (n : ℕ) (firm : FirmId) (report : Id) (at : Group) (lines : List Line) (group : Group) → same_group at group ≡ false → length (numbers_from n (map (offered firm report at) lines) group) ≡ 0
no_others n firm report at [] group other = refl
no_others n firm report at (line ∷ lines) group other = rw other (no_others (n + 1) firm report at lines group other)

-- lines are given up under agreements, with room for their offers
pub shown-with_lines : (reference : Tables) (rows : List Row) (firm : FirmId) (report : Id) (at : Group) (lines : List Line)
    → AllByRecursion (λ (l : Line). is_some (agreement_between reference firm l.account) ≡ true) lines → open_count rows at + length lines ≤ 4096
    → IsShown reference rows → IsShown reference (with_lines rows firm report at lines)
shown-with_lines reference rows firm report at lines agreed room shown = record { few = few; agreed = all rows lines shown.agreed agreed }
  where
    all : (rs : List Row) (ls : List Line) → AreAgreed reference rs → AllByRecursion (λ (l : Line). is_some (agreement_between reference firm l.account) ≡ true) ls
        → AreAgreed reference (rs ++ map (offered firm report at) ls)
    all [] [] h k = tt
    all [] (l ∷ ls) h k = (k.0, all [] ls h k.1)
    all (r ∷ rs) ls h k = (h.0, all rs ls h.1 k)

    few : AreFew (with_lines rows firm report at lines)
    few group =
        let made = map (offered firm report at) lines in
        let more = numbers_from (1 + length rows) made group in
        let count : open_count (rows ++ made) group ≡ open_count rows group + length more =
        ap (λ (l : List ℕ). length l) (numbers-append group 1 rows made) ∙ length-append (open_numbers rows group) more in
        elim (cases_Bool (same_group at group)) [
          | inl own ↦
              let here : open_count rows at ≡ open_count rows group = ap (open_count rows) (same_group-true at group own) in
              omega (arith, count, here, room, few_numbers (1 + length rows) made group, length-map lines (offered firm report at))
          | inr other ↦ omega (arith, count, shown.few group, no_others (1 + length rows) firm report at lines group other)
        ]
