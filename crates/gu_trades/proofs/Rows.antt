-- Positions linked along rows: the last that passes a test, and one more position.
use Rattle.std.proofs.Common.{◌≡◌, ◌∙◌, sym, refl, ap, subst, ℕ, zero, suc, ◌+◌, ◌-◌, ◌%◌, ◌<◌, ◌≤◌, ◌==◌, Bool, true, false, cond, List, [], ◌∷◌, ◌++◌, length, get_or, set, take, inl, inr, eq-eqb, arith, get_or-set_same, get_or-set_other, length-append}
use Rattle.std.proofs.lemmas.Bool.{cases_Bool, cases_eq, eqb-true, false_from_ne_true}
use Rattle.std.proofs.lemmas.List.{get_or_append_left, get_or_push, get_or-map, get_or_default, length-map, length-set, length-take, map-append, take_more_set}
use Rattle.std.proofs.Math.Seq.{map-set_same}
use Rattle.std.specs.Prelude.{slice_index}
use Rattle.gu_trades.specs.Numbered.{has_number, last_before}
use Rattle.gu_trades.specs.HashIndex.{EndsRows, IsLinked, is_in_row, numbers_of}
use Rattle.gu_trades.specs.declared.hash_index.Link.{Link}

-- ---- the last position that passes a test

-- is below the bound
pub last_before-le : (test : ℕ → Bool) (bound : ℕ) → last_before test bound ≤ bound
last_before-le test zero = omega arith
last_before-le test (suc place) =
    elim (cases_Bool (test place)) [
      | inl hit ↦ rw hit (omega arith)
      | inr miss ↦ rw miss (omega (arith, last_before-le test place))
    ]

-- passes it
pub last_before-passes : (test : ℕ → Bool) (bound place : ℕ) → last_before test bound ≡ suc place → test place ≡ true
last_before-passes test zero place is = absurd (omega arith)
last_before-passes test (suc bound) place is =
    elim (cases_Bool (test bound)) [
      | inl hit ↦ let own : suc bound ≡ suc place = rw hit at is in let one : bound ≡ place = omega arith in subst (λ place. test place ≡ true) one hit
      | inr miss ↦ last_before-passes test bound place (rw miss at is)
    ]

-- depends only on the test below the bound
pub last_before-agree : (f g : ℕ → Bool) (bound : ℕ) → ((place : ℕ) → place < bound → f place ≡ g place) → last_before f bound ≡ last_before g bound
last_before-agree f g zero agree = refl
last_before-agree f g (suc place) agree =
    rw (agree place (omega arith), last_before-agree f g place (λ p below. agree p (omega arith))) refl

-- is at or before the last that passes a wider test
pub last_before-narrow : (narrow wide : ℕ → Bool) (bound : ℕ) → ((place : ℕ) → place < bound → narrow place ≡ true → wide place ≡ true)
    → last_before narrow bound ≡ last_before narrow (last_before wide bound)
last_before-narrow narrow wide zero within = refl
last_before-narrow narrow wide (suc place) within =
    elim (cases_Bool (wide place)) [
      | inl hit ↦ ap (last_before narrow) (sym (ap (λ b. cond b (suc place) (last_before wide place)) hit))
      | inr miss ↦
          let none : narrow place ≡ false = false_from_ne_true (narrow place) (λ own. let both = within place (omega arith) own in cc) in
          ap (λ b. cond b (suc place) (last_before narrow place)) none
          ∙ last_before-narrow narrow wide place (λ p below own. within p (omega arith) own)
          ∙ ap (last_before narrow) (sym (ap (λ b. cond b (suc place) (last_before wide place)) miss))
    ]

-- ---- along a row

-- a step back along a row skips no position with the hash
pub back : (links : List Link) (rows number place : ℕ) (d : Link) → IsLinked links rows → place < length links
    → slice_index (numbers_of links) place % rows ≡ number % rows → (has_number (numbers_of links) number place ≡ false)
    → (last_before (has_number (numbers_of links) number) (suc place) ≡ last_before (has_number (numbers_of links) number) (get_or links place d).before)
    × ((get_or links place d).before ≤ place)
    × ((earlier : ℕ) → (get_or links place d).before ≡ suc earlier → slice_index (numbers_of links) earlier % rows ≡ number % rows)
back links rows number place d linked inside row other =
    let numbers = numbers_of links in
    let here = slice_index numbers place % rows in
    let to : (get_or links place d).before ≡ last_before (is_in_row numbers rows here) place = linked place d inside in (
      ap (λ b. cond b (suc place) (last_before (has_number numbers number) place)) other
          ∙ last_before-narrow (has_number numbers number) (is_in_row numbers rows here) place
          (λ p below own. eq-eqb (slice_index numbers p % rows) here (ap (λ n. n % rows) (eqb-true (slice_index numbers p) number own) ∙ sym row))
          ∙ ap (last_before (has_number numbers number)) (sym to),
      subst (λ n. n ≤ place) (sym to) (last_before-le (is_in_row numbers rows here) place),
      λ earlier is. eqb-true (slice_index numbers earlier % rows) here (last_before-passes (is_in_row numbers rows here) place earlier (sym to ∙ is)) ∙ row,
    )

-- a step back from a position with another hash
pub step-back : (links : List Link) (rows number at : ℕ) (d : Link) → IsLinked links rows → 0 < at → at ≤ length links
    → (0 < at → slice_index (numbers_of links) (at - 1) % rows ≡ number % rows) → ((get_or links (at - 1) d).number ≡ number → ⊥)
    → (last_before (has_number (numbers_of links) number) at ≡ last_before (has_number (numbers_of links) number) (get_or links (at - 1) d).before)
    × ((get_or links (at - 1) d).before < at)
    × (0 < (get_or links (at - 1) d).before → slice_index (numbers_of links) ((get_or links (at - 1) d).before - 1) % rows ≡ number % rows)
step-back links rows number at d linked some inside row other =
    let one : at ≡ suc (at - 1) = omega arith in
    let within : at - 1 < length links = omega arith in
    let number_here : slice_index (numbers_of links) (at - 1) ≡ (get_or links (at - 1) d).number = get_or-map (λ (link : Link). link.number) links (at - 1) d 0 within in
    let miss : has_number (numbers_of links) number (at - 1) ≡ false =
    false_from_ne_true (has_number (numbers_of links) number (at - 1)) (λ hit. other (sym number_here ∙ eqb-true (slice_index (numbers_of links) (at - 1)) number hit)) in
    let step = back links rows number (at - 1) d linked within (row some) miss in (
      ap (last_before (has_number (numbers_of links) number)) one ∙ step.0,
      omega (arith, step.1),
      λ more. step.2 ((get_or links (at - 1) d).before - 1) (omega arith),
    )

-- the start of a walk along a row
module _ (numbers : List ℕ) (rows in_row bound from : ℕ) (start : from ≡ last_before (is_in_row numbers rows in_row) bound) where
  pub start-within : (most : ℕ) → bound ≤ most → from ≤ most
  start-within most below = omega (arith, start, last_before-le (is_in_row numbers rows in_row) bound)

  pub start-row : 0 < from → slice_index numbers (from - 1) % rows ≡ in_row
  start-row some =
      let one : from ≡ suc (from - 1) = omega arith in
      eqb-true (slice_index numbers (from - 1) % rows) in_row (last_before-passes (is_in_row numbers rows in_row) bound (from - 1) (sym start ∙ one))

  -- the result of the walk
  pub found-along : (number result : ℕ) → in_row ≡ number % rows → result ≡ last_before (has_number numbers number) from → result ≡ last_before (has_number numbers number) bound
  found-along number result own is =
      is ∙ ap (last_before (has_number numbers number)) start
      ∙ sym (last_before-narrow (has_number numbers number) (is_in_row numbers rows in_row) bound
      (λ place below here. eq-eqb (slice_index numbers place % rows) in_row (ap (λ n. n % rows) (eqb-true (slice_index numbers place) number here) ∙ sym own)))

-- a link read, and the walk that starts after it
module _ (links : List Link) (rows place : ℕ) (link : Link) (linked : IsLinked links rows) (inside : place < length links) (is : link ≡ get_or links place link) where
  pub number-read : slice_index (numbers_of links) place ≡ link.number
  number-read = get_or-map (λ (link : Link). link.number) links place link 0 inside ∙ ap (λ (link : Link). link.number) (sym is)

  pub link-start : link.before ≡ last_before (is_in_row (numbers_of links) rows (link.number % rows)) place
  link-start =
      ap (λ (link : Link). link.before) is ∙ linked place link inside
      ∙ ap (λ n. last_before (is_in_row (numbers_of links) rows (n % rows)) place) number-read

-- the end of a row, as read
pub end-start : (links : List Link) (last : List ℕ) (row from : ℕ) → EndsRows links last → row < length last → from ≡ get_or last row from
    → from ≡ last_before (is_in_row (numbers_of links) (length last) row) (length links)
end-start links last row from ends inside is = is ∙ get_or_default last row from 0 inside ∙ ends row inside

-- ---- one more position

module _ (links : List Link) (last : List ℕ) (number : ℕ) (linked : IsLinked links (length last)) (ends : EndsRows links last) (some : 0 < length last) where
  -- the row of the hash
  abbrev row : ℕ
  row = number % length last

  -- the new position
  abbrev link : Link
  link = record { number = number; before = slice_index last row }

  numbers-push : numbers_of (links ++ link ∷ []) ≡ numbers_of links ++ number ∷ []
  numbers-push = map-append (λ (link : Link). link.number) links (link ∷ [])

  length-numbers : length (numbers_of links) ≡ length links
  length-numbers = length-map links (λ (link : Link). link.number)

  -- earlier positions keep their hashes
  kept : (place : ℕ) → place < length links → slice_index (numbers_of (links ++ link ∷ [])) place ≡ slice_index (numbers_of links) place
  kept place inside =
      ap (λ numbers. slice_index numbers place) numbers-push
      ∙ get_or_append_left (numbers_of links) (number ∷ []) 0 place (omega (arith, length-numbers))

  -- the new position has its own
  own : slice_index (numbers_of (links ++ link ∷ [])) (length links) ≡ number
  own = ap (λ numbers. slice_index numbers (length links)) numbers-push ∙ get_or_push (numbers_of links) number 0 (length links) length-numbers

  -- so earlier positions are in the same rows as before
  rows-kept : (rows in_row bound : ℕ) → bound ≤ length links
      → last_before (is_in_row (numbers_of (links ++ link ∷ [])) rows in_row) bound ≡ last_before (is_in_row (numbers_of links) rows in_row) bound
  rows-kept rows in_row bound inside =
      last_before-agree (is_in_row (numbers_of (links ++ link ∷ [])) rows in_row) (is_in_row (numbers_of links) rows in_row) bound
      (λ place below. ap (λ n. n % rows == in_row) (kept place (omega arith)))

  -- the new position is linked like the others
  pub linked-push : IsLinked (links ++ link ∷ []) (length last)
  linked-push place d inside =
      elim (cases_eq place (length links)) [
        | inl new ↦
            let here : get_or (links ++ link ∷ []) place d ≡ link = get_or_push links link d place (sym new) in
            let number_here : slice_index (numbers_of (links ++ link ∷ [])) place ≡ number = ap (slice_index (numbers_of (links ++ link ∷ []))) new ∙ own in
            ap (λ (l : Link). l.before) here
            ∙ ends row (row-within)
            ∙ sym (rows-kept (length last) row (length links) (omega arith))
            ∙ ap (last_before (is_in_row (numbers_of (links ++ link ∷ [])) (length last) row)) (sym new)
            ∙ ap (λ n. last_before (is_in_row (numbers_of (links ++ link ∷ [])) (length last) (n % length last)) place) (sym number_here)
        | inr older ↦
            let below : place < length links = omega (arith, length-append links (link ∷ [])) in
            ap (λ (l : Link). l.before) (get_or_append_left links (link ∷ []) d place below)
            ∙ linked place d below
            ∙ sym (rows-kept (length last) (slice_index (numbers_of links) place % length last) place (omega arith))
            ∙ ap (λ n. last_before (is_in_row (numbers_of (links ++ link ∷ [])) (length last) (n % length last)) place) (sym (kept place below))
      ]
    where
      row-within : row < length last
      row-within = omega arith

  -- its row ends at it, and the other rows end as before
  pub ends-push : EndsRows (links ++ link ∷ []) (set last row (length links + 1))
  ends-push other inside =
      let long : length (set last row (length links + 1)) ≡ length last = length-set last row (length links + 1) in
      let within : other < length last = omega arith in
      let count : length (links ++ link ∷ []) ≡ suc (length links) = omega (arith, length-append links (link ∷ [])) in
      rw (long, count, own, rows-kept (length last) other (length links) (omega arith))
      (elim (cases_eq other row) [
        | inl same ↦
            let hit : (row == other) ≡ true = eq-eqb row other (sym same) in
            rw (hit, same) (ended)
        | inr apart ↦
            let miss : (row == other) ≡ false = false_from_ne_true (row == other) (λ hit. apart (sym (eqb-true row other hit))) in
            rw miss (get_or-set_other last row other (length links + 1) 0 apart ∙ ends other within)
      ])
    where
      ended : slice_index (set last row (length links + 1)) row ≡ suc (length links)
      ended = get_or-set_same last row (length links + 1) 0 (omega arith) ∙ omega arith

-- the index after one more position
pub places-push : (links new : List Link) (last : List ℕ) (number row count before : ℕ) → length last ≤ 2147483648 → IsLinked links (length last) → EndsRows links last → length links < length last
    → row ≡ number % length last → before ≡ get_or last row before → new ≡ links ++ (record { number = number; before = before }) ∷ [] → count ≡ length new
    → (length (set last row count) ≤ 2147483648) × (length new ≤ length (set last row count))
    × IsLinked new (length (set last row count)) × EndsRows new (set last row count)
places-push links new last number row count before few linked ends room own_row reads is counts =
    let some : 0 < length last = omega arith in
    let inside : row < length last = rw own_row (omega arith) in
    let own : before ≡ slice_index last (number % length last) = reads ∙ get_or_default last row before 0 inside ∙ ap (slice_index last) own_row in
    let all : new ≡ links ++ link links last number linked ends some ∷ [] = is ∙ ap (λ b. links ++ (record { number = number; before = b }) ∷ []) own in
    let long : length (set last row count) ≡ length last = length-set last row count in
    let size : length new ≡ length links + 1 = ap length all ∙ length-append links (link links last number linked ends some ∷ []) in
    let counted : count ≡ length links + 1 = counts ∙ size in (
      omega arith,
      omega arith,
      rw (long, all) (linked-push links last number linked ends some),
      rw (counted, own_row, all) (ends-push links last number linked ends some),
    )

-- ---- relinking all positions

-- one more position is linked, and keeps its hash
module _ (links : List Link) (last : List ℕ) (place row : ℕ) (d : Link) (few : length last ≤ 2147483648) (room : length links < length last) (inside : place < length links)
    (linked : IsLinked (take place links) (length last)) (ends : EndsRows (take place links) last) (own_row : row ≡ (get_or links place d).number % length last) where
  -- its hash
  abbrev own_number : ℕ
  own_number = (get_or links place d).number

  -- its link
  abbrev new_link : Link
  new_link = record { number = own_number; before = get_or last row 0 }

  pub numbers-again : numbers_of (set links place new_link) ≡ numbers_of links
  numbers-again = map-set_same (λ (link : Link). link.number) links place new_link d refl

  pub place-again : IsLinked (take (place + 1) (set links place new_link)) (length (set last row (place + 1)))
      × EndsRows (take (place + 1) (set links place new_link)) (set last row (place + 1))
  place-again =
      let some : row < length last = rw own_row (omega arith) in
      let short : length (take place links) ≡ place = omega (arith, length-take place links) in
      let more = take_more_set links place new_link inside in
      let all = places-push (take place links) (take (place + 1) (set links place new_link)) last own_number row (place + 1) (get_or last row 0)
      few linked ends (omega arith) own_row (get_or_default last row 0 (get_or last row 0) some) more
      (sym (ap length more ∙ length-append (take place links) (new_link ∷ []) ∙ ap (λ n. n + 1) short)) in
      (all.2, all.3)
