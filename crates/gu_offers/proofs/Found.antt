-- The offer with a number, as stored.
use Rattle.gu_offers.proofs.Words.{◌≡◌, ◌∙◌, sym, ap, ℕ, ◌+◌, ◌<◌, ◌≤◌, List, length, slice_get, slice_index_or, Option, Some, None, add-one, option_map, option_map_or, slice_get-get_or, slice_get-map, slice_get_past, GivenUp, Inside, row_of, rows_of, Row, left_in, left_of, row_at}

-- the offer with a number is at its index
pub row_at-place : (rows : List Row) (place number : ℕ) → place + 1 ≡ number → row_at rows number ≡ slice_get rows place
row_at-place rows place number e = ap (row_at rows) (sym e ∙ add-one place)

-- the result of a look-up by index
pub looked_up : {X : Type 0} (xs : List X) (place : ℕ) (x : X) → place < length xs → ((d : X) → x ≡ slice_index_or xs place d) → slice_get xs place ≡ Some x
looked_up xs place x inside at = slice_get-get_or xs place x inside ∙ ap Some (sym (at x))

-- the offer with a number is the one stored at its index
pub row_at-kept : (kept : Inside) (rows : List Row) → rows_of kept ≡ rows → (place number : ℕ) → place + 1 ≡ number → (o : Option GivenUp) → slice_get kept.rows place ≡ o
    → row_at rows number ≡ option_map (row_of kept.day) o
row_at-kept kept rows view place number e o at =
    row_at-place rows place number e ∙ ap (λ it. slice_get it place) (sym view) ∙ slice_get-map (row_of kept.day) kept.rows place ∙ ap (option_map (row_of kept.day)) at

-- there is none past the end
pub past : {X : Type 0} (xs : List X) (place : ℕ) → length xs ≤ place → slice_get xs place ≡ None
past xs place h = slice_get_past xs place h

-- the lots left of a stored offer
pub left_in-kept : (kept : Inside) (rows : List Row) → rows_of kept ≡ rows → (place number : ℕ) → place + 1 ≡ number → (g : GivenUp) → slice_get kept.rows place ≡ Some g
    → left_in rows number ≡ left_of (row_of kept.day g)
left_in-kept kept rows view place number e g at = ap (λ o. option_map_or left_of o 0) (row_at-kept kept rows view place number e (Some g) at)
