-- Offers as they are now, after one more entry.
use Rattle.gu_rules.proofs.Words.{◌≡◌, ℕ, zero, suc, ◌+◌, ◌-◌, ◌≤◌, Bool, true, false, ◌||◌, List, [], ◌∷◌, ◌++◌, length, sum_by, Some, None, refl, ap, ◌∙◌, arith, append-nil, slice_get, option_map, list_any-append, sum_by_push, Entry, Offer, Row, closes, given_back_by, is_shut, lines_by, moved_of, offers_of, standing, standing_from, standing_of, taken_by, IsBalanced, entries_today, opened_day}
use Rattle.std.proofs.lemmas.List.Concat.{flat_map-append}
use Rattle.gu_rules.proofs.Today.{entries_today-kept}

-- an offer after one more entry takes from it, gives back to it or closes it
abbrev pub stepped : Entry → ℕ → Row → Row
stepped entry n row =
    record {
      offer = row.offer;
      moved = row.moved + taken_by n entry - given_back_by n entry;
      today = row.today + taken_by n entry - given_back_by n entry;
      is_shut = row.is_shut || closes n entry;
    }

-- offers, numbered from this number, after one more entry
abbrev pub stepped_from : Entry → ℕ → List Row → List Row
stepped_from entry n [] = []
stepped_from entry n (row ∷ rows) = stepped entry n row ∷ stepped_from entry (n + 1) rows

pub either-false : (b : Bool) → (b || false) ≡ b
either-false true = refl
either-false false = refl

-- the lots that one more entry moves
pub moved_of-push : (entries : List Entry) (entry : Entry) (n : ℕ) → sum_by (given_back_by n) entries ≤ sum_by (taken_by n) entries
    → moved_of (entries ++ entry ∷ []) n ≡ moved_of entries n + taken_by n entry - given_back_by n entry
moved_of-push entries entry n less =
    let taken = sum_by_push (taken_by n) entries entry in
    let given = sum_by_push (given_back_by n) entries entry in
    omega (arith, taken, given, less)

-- an offer is closed if it was, or if one more entry closes it
pub is_shut-push : (history : List Entry) (entry : Entry) (n : ℕ) → is_shut (history ++ entry ∷ []) n ≡ (is_shut history n || closes n entry)
is_shut-push history entry n = list_any-append (closes n) history (entry ∷ []) ∙ ap (λ b. is_shut history n || b) (either-false (closes n entry))

-- an existing offer, after one more entry
standing-push : (history : List Entry) (entry : Entry) (n : ℕ) (offer : Offer) → opened_day entry ≡ None → IsBalanced history
    → standing (history ++ entry ∷ []) n offer ≡ stepped entry n (standing history n offer)
standing-push history entry n offer none balanced =
    let moved = moved_of-push history entry n (balanced.all n) in
    let today : moved_of (entries_today (history ++ entry ∷ [])) n ≡ moved_of (entries_today history) n + taken_by n entry - given_back_by n entry =
    ap (λ (es : List Entry). moved_of es n) (entries_today-kept history entry none) ∙ moved_of-push (entries_today history) entry n (balanced.today n) in
    let shut = is_shut-push history entry n in
    λ i. record { offer = offer; moved = moved i; today = today i; is_shut = shut i }

-- existing offers, after one more entry
pub standing_from-push : (history : List Entry) (entry : Entry) (n : ℕ) (offers : List Offer) → opened_day entry ≡ None → IsBalanced history
    → standing_from (history ++ entry ∷ []) n offers ≡ stepped_from entry n (standing_from history n offers)
standing_from-push history entry n [] none balanced = refl
standing_from-push history entry n (offer ∷ offers) none balanced =
    let one = standing-push history entry n offer none balanced in
    let others = standing_from-push history entry (n + 1) offers none balanced in
    λ i. one i ∷ others i

-- offers after others
pub standing_from-append : (history : List Entry) (n : ℕ) (offers more : List Offer)
    → standing_from history n (offers ++ more) ≡ standing_from history n offers ++ standing_from history (n + length offers) more
standing_from-append history n [] more = ap (λ (m : ℕ). standing_from history m more) (omega arith)
standing_from-append history n (offer ∷ offers) more =
    let next : n + 1 + length offers ≡ n + length (offer ∷ offers) = omega arith in
    ap (λ (rows : List Row). standing history n offer ∷ rows)
    (standing_from-append history (n + 1) offers more
    ∙ ap (λ (m : ℕ). standing_from history (n + 1) offers ++ standing_from history m more) next)

-- the offers that one more entry makes follow the existing ones
pub offers_of-push : (history : List Entry) (entry : Entry) → offers_of (history ++ entry ∷ []) ≡ offers_of history ++ lines_by entry
offers_of-push history entry = flat_map-append lines_by history (entry ∷ []) ∙ ap (λ (made : List Offer). offers_of history ++ made) (append-nil (lines_by entry))

-- all offers as they are now, after one more entry that opens no day
pub standing_of-push : (history : List Entry) (entry : Entry) → opened_day entry ≡ None → IsBalanced history
    → standing_of (history ++ entry ∷ []) ≡ stepped_from entry 1 (standing_of history) ++ standing_from (history ++ entry ∷ []) (1 + length (offers_of history)) (lines_by entry)
standing_of-push history entry none balanced =
    ap (standing_from (history ++ entry ∷ []) 1) (offers_of-push history entry)
    ∙ standing_from-append (history ++ entry ∷ []) 1 (offers_of history) (lines_by entry)
    ∙ ap (λ (rows : List Row). rows ++ standing_from (history ++ entry ∷ []) (1 + length (offers_of history)) (lines_by entry))
    (standing_from-push history entry 1 (offers_of history) none balanced)

-- there are as many rows as offers made
pub length-standing_from : (history : List Entry) (n : ℕ) (offers : List Offer) → length (standing_from history n offers) ≡ length offers
length-standing_from history n [] = refl
length-standing_from history n (offer ∷ offers) = ap suc (length-standing_from history (n + 1) offers)

-- the offer with a number, after one more entry
slice_get-stepped_from : (entry : Entry) (n : ℕ) (rows : List Row) (place : ℕ)
    → slice_get (stepped_from entry n rows) place ≡ option_map (stepped entry (n + place)) (slice_get rows place)
slice_get-stepped_from entry n [] place = refl
slice_get-stepped_from entry n (row ∷ rows) zero = ap (λ (m : ℕ). Some (stepped entry m row)) (omega arith)
slice_get-stepped_from entry n (row ∷ rows) (suc place) =
    let next : n + 1 + place ≡ n + suc place = omega arith in
    slice_get-stepped_from entry (n + 1) rows place ∙ ap (λ (m : ℕ). option_map (stepped entry m) (slice_get rows place)) next

-- an entry that takes from no offer, gives back to none and closes none
pub record IsIdle (entry : Entry) : Type 0 where
  pub takes : (n : ℕ) → taken_by n entry ≡ 0
  pub gives : (n : ℕ) → given_back_by n entry ≡ 0
  pub closed : (n : ℕ) → closes n entry ≡ false

-- an offer that nothing is taken from or given back to, and that isn't closed, is unchanged
pub stepped-still : (entry : Entry) (n : ℕ) (row : Row) → taken_by n entry ≡ 0 → given_back_by n entry ≡ 0 → closes n entry ≡ false → stepped entry n row ≡ row
stepped-still entry n row takes gives closed =
    let moved : row.moved + taken_by n entry - given_back_by n entry ≡ row.moved = omega (arith, takes, gives) in
    let today : row.today + taken_by n entry - given_back_by n entry ≡ row.today = omega (arith, takes, gives) in
    let shut : (row.is_shut || closes n entry) ≡ row.is_shut = ap (λ b. row.is_shut || b) closed ∙ either-false row.is_shut in
    λ i. record { offer = row.offer; moved = moved i; today = today i; is_shut = shut i }

-- such an entry leaves each unchanged
pub stepped-idle : (entry : Entry) (n : ℕ) (row : Row) → IsIdle entry → stepped entry n row ≡ row
stepped-idle entry n row idle = stepped-still entry n row (idle.takes n) (idle.gives n) (idle.closed n)

-- and all of them
pub stepped_from-idle : (entry : Entry) (n : ℕ) (rows : List Row) → IsIdle entry → stepped_from entry n rows ≡ rows
stepped_from-idle entry n [] idle = refl
stepped_from-idle entry n (row ∷ rows) idle =
    let one = stepped-idle entry n row idle in
    let others = stepped_from-idle entry (n + 1) rows idle in
    λ i. one i ∷ others i
