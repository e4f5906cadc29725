-- A new empty row goes last, and changes no answer.
use Rattle.gu_positions.proofs.Words.{◌≡◌, ◌∙◌, sym, refl, ap, subst, ℕ, ◌-◌, ◌<◌, ◌^◌, Bool, true, false, cond, ◌||◌, List, [], ◌∷◌, ◌++◌, map, Option, Some, None, is_some, unwrap_or, arith, if◌then◌else◌, AllByRecursion, IsDistinct, find, sum_by, option_map_or, get, insert_entry, Updates, insert_entry-new, AccountId, Side, Buy, Sell, Symbol, same_symbol, StandsAt, Inside, KeepsLots, empty_row, same_place, nothing_at, IsKept, KeepsPlaces, place_of, row_of, rows_of, same_key, Row, has_row, is_of, lots_in, lots_of, lots_on, open_interest_in, same_row}
use Rattle.std.proofs.lemmas.List.{map-append}
use Rattle.std.proofs.lemmas.List.Folds.{list_any-append}
use Rattle.std.proofs.lemmas.List.Sums.{sum_by-append, sum_by-cons}
use Rattle.gu_positions.proofs.KeptLots.{has_row-lookup, places-updated}
use Rattle.gu_positions.proofs.Places.{same_place-sym, same_place-true}

or_neither : (p : Bool) → (p || false) ≡ p
or_neither true = refl
or_neither false = refl

neither : (p q : Bool) → (p || q) ≡ false → (p ≡ false) × (q ≡ false)
neither true q h = cc
neither false true h = cc
neither false false h = (refl, refl)

none : {X : Type 0} (o : Option X) → is_some o ≡ false → o ≡ None
none None h = refl
none (Some x) h = cc

module _ (account : AccountId) (symbol : Symbol) where
  no_lots : (t : Side) → lots_of t (empty_row account symbol) ≡ 0
  no_lots Buy = refl
  no_lots Sell = refl

  -- the row exists
  pub has_row-one_more : (rows : List Row) (a : AccountId) (s : Symbol)
      → has_row (rows ++ empty_row account symbol ∷ []) a s ≡ (has_row rows a s || same_place a s account symbol)
  has_row-one_more rows a s =
      list_any-append (is_of a s) rows (empty_row account symbol ∷ []) ∙ ap (λ b. has_row rows a s || b) (or_neither (same_place a s account symbol))

  -- the lots of each account are unchanged
  pub lots_in-one_more : (rows : List Row) (t : Side) (a : AccountId) (s : Symbol) → lots_in (rows ++ empty_row account symbol ∷ []) t a s ≡ lots_in rows t a s
  lots_in-one_more [] t a s = by (same_place a s account symbol)
    where
      by : (b : Bool) → option_map_or (lots_of t) (cond b (Some (empty_row account symbol)) None) 0 ≡ 0
      by true = no_lots t
      by false = refl
  lots_in-one_more (r ∷ rows) t a s = by (is_of a s r) (lots_in-one_more rows t a s)
    where
      by : (b : Bool) → lots_in (rows ++ empty_row account symbol ∷ []) t a s ≡ lots_in rows t a s
          → option_map_or (lots_of t) (cond b (Some r) (find (is_of a s) (rows ++ empty_row account symbol ∷ []))) 0 ≡ option_map_or (lots_of t) (cond b (Some r) (find (is_of a s) rows)) 0
      by true rest = refl
      by false rest = rest

  nothing : (b : Bool) (n : ℕ) → n ≡ 0 → (if b then n else 0) ≡ 0
  nothing true n e = e
  nothing false n e = refl

  sum-one_more : (f : Row → ℕ) (rows : List Row) → f (empty_row account symbol) ≡ 0 → sum_by f (rows ++ empty_row account symbol ∷ []) ≡ sum_by f rows
  sum-one_more f rows e = omega (arith, sum_by-append f rows (empty_row account symbol ∷ []), sum_by-cons f (empty_row account symbol) [], e)

  -- no answer changes
  pub keeps_lots-one_more : (rows : List Row) → KeepsLots rows (rows ++ empty_row account symbol ∷ [])
  keeps_lots-one_more rows = record {
    lots = λ t a s. lots_in-one_more rows t a s;
    sums = λ t s. sum-one_more (λ r. if same_symbol r.symbol s then lots_of t r else 0) rows (nothing (same_symbol symbol s) _ (no_lots t));
    interest = λ s. sum-one_more (λ r. if same_symbol r.symbol s then r.long - r.short else 0) rows (nothing (same_symbol symbol s) _ refl);
  }

  apart-one_more : (x : Row) (rows : List Row) → is_of account symbol x ≡ false → AllByRecursion (λ r. same_row x r ≡ false) rows
      → AllByRecursion (λ r. same_row x r ≡ false) (rows ++ empty_row account symbol ∷ [])
  apart-one_more x [] new apart = (same_place-sym x.account x.symbol account symbol ∙ new, tt)
  apart-one_more x (r ∷ rows) new apart = (apart.0, apart-one_more x rows new apart.1)

  -- no row occurs twice
  pub distinct-one_more : (rows : List Row) → has_row rows account symbol ≡ false → IsDistinct same_row rows → IsDistinct same_row (rows ++ empty_row account symbol ∷ [])
  unfolding IsDistinct
  distinct-one_more [] new once = (tt, tt)
  distinct-one_more (r ∷ rows) new once =
      let p = neither (is_of account symbol r) (has_row rows account symbol) new in
      (apart-one_more r rows p.0 once.0, distinct-one_more rows p.1 once.1)

implied : (p q : Bool) → (q ≡ true → p ≡ true) → p ≡ (p || q)
implied true q h = refl
implied false true h = h refl
implied false false h = refl

-- a row that exists is not added again
pub has_row-present : (rows : List Row) (account : AccountId) (symbol : Symbol) → has_row rows account symbol ≡ true
    → (a : AccountId) (s : Symbol) → has_row rows a s ≡ (has_row rows a s || same_place a s account symbol)
has_row-present rows account symbol there a s =
    implied (has_row rows a s) (same_place a s account symbol)
    (λ same. let one = same_place-true a s account symbol same in (λ i. has_row rows (one.0 i) (one.1 i)) ∙ there)

-- after an empty row is added last, with an open interest for its instrument
pub kept-one_more : (old new : Inside) (account : AccountId) (symbol : Symbol) → IsKept old → (rows : List Row) → rows_of old ≡ rows → false ≡ has_row rows account symbol
    → (at : ℕ) × StandsAt new.interests.entries symbol at × (new.rows.entries ≡ insert_entry same_key old.rows.entries (place_of account symbol) (nothing_at at))
    × Updates same_key old.rows new.rows (place_of account symbol) (Some (nothing_at at))
    → KeepsPlaces old.interests.entries new.interests.entries
    → ((other : Symbol) → unwrap_or (get same_symbol new.interests other) 0 ≡ unwrap_or (get same_symbol old.interests other) 0)
    → IsKept new × (rows_of new ≡ rows ++ empty_row account symbol ∷ [])
kept-one_more old new account symbol kept rows own absent (at, stands, made, updated) stay same =
    let new_row : has_row (rows_of old) account symbol ≡ false = ap (λ rows. has_row rows account symbol) own ∙ sym absent in
    let nowhere : get same_key old.rows (place_of account symbol) ≡ None = none (get same_key old.rows (place_of account symbol)) (sym (has_row-lookup account symbol old.rows.entries) ∙ new_row) in
    let view : rows_of new ≡ rows_of old ++ empty_row account symbol ∷ [] =
    ap (map row_of) (made ∙ insert_entry-new same_key old.rows (place_of account symbol) (nothing_at at) nowhere) ∙ map-append row_of old.rows.entries ((place_of account symbol, nothing_at at) ∷ []) in
    let lots = keeps_lots-one_more account symbol (rows_of old) in (
      record {
        once = subst (IsDistinct same_row) (sym view) (distinct-one_more account symbol (rows_of old) new_row kept.once);
        few = λ side s. subst (λ n. n < 2 ^ 64) (sym (ap (λ rows. lots_on rows side s) view ∙ lots.sums side s)) (kept.few side s);
        places = places-updated old kept new account symbol (nothing_at at) updated stay stands;
        interests = λ s. same s ∙ kept.interests s ∙ sym (ap (λ rows. open_interest_in rows s) view ∙ lots.interest s);
      },
      view ∙ ap (λ rows. rows ++ empty_row account symbol ∷ []) own,
    )
