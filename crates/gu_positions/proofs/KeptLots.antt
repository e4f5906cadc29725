-- The rows as stored: look-ups by account and instrument, writes, and the open interests beside them.
use Rattle.gu_positions.proofs.Words.{◌≡◌, ◌∙◌, sym, refl, ap, subst, ℕ, ◌+◌, ◌-◌, ◌<◌, ◌≤◌, ◌^◌, Bool, true, false, cond, ◌||◌, List, [], ◌∷◌, map, Option, None, Some, is_some, unwrap_or, arith, if◌then◌else◌, IsDistinct, find, option_map_or, get, Updates, AccountId, Side, Buy, Sell, Symbol, same_symbol, StandsAt, Holding, Place, Inside, held, IsKept, KeepsPlaces, place_of, row_of, rows_of, same_key, Row, has_row, is_of, lots_in, lots_of, lots_on, open_interest_in, same_row, same_symbol-own, same_symbol-true}
use Rattle.std.specs.Map.{lookup, set_value}
use Rattle.gu_positions.proofs.Changed.{changed, distinct-changed, find-passes, found-among, found_within_sum, open_interest-changed, rest_unchanged}
use Rattle.gu_positions.proofs.Places.{same_place-true}

lots_of-row_of : (t : Side) (k : Place) (h : Holding) → lots_of t (row_of (k, h)) ≡ held t h
lots_of-row_of Buy k h = refl
lots_of-row_of Sell k h = refl

-- a look-up finds the lots of a row
pub lots_in-lookup : (t : Side) (a : AccountId) (s : Symbol) (entries : List (Place × Holding))
    → lots_in (map row_of entries) t a s ≡ option_map_or (held t) (lookup (same_key (place_of a s)) entries) 0
lots_in-lookup t a s [] = refl
lots_in-lookup t a s (e ∷ entries) = by (same_key (place_of a s) e.0) (lots_in-lookup t a s entries)
  where
    by : (b : Bool) → lots_in (map row_of entries) t a s ≡ option_map_or (held t) (lookup (same_key (place_of a s)) entries) 0
        → option_map_or (lots_of t) (cond b (Some (row_of e)) (find (is_of a s) (map row_of entries))) 0
        ≡ option_map_or (held t) (cond b (Some e.1) (lookup (same_key (place_of a s)) entries)) 0
    by true rest = lots_of-row_of t e.0 e.1
    by false rest = rest

-- both sides are found
pub both_sides-lookup : (kept : Inside) (rows : List Row) → rows_of kept ≡ rows → (a : AccountId) (s : Symbol) (o : Option Holding) → o ≡ get same_key kept.rows (place_of a s)
    → ◌≡◌ {A = ℕ × ℕ} (option_map_or (held Buy) o 0, option_map_or (held Sell) o 0) (lots_in rows Buy a s, lots_in rows Sell a s)
both_sides-lookup kept rows view a s o at = λ i. (one Buy i, one Sell i)
  where
    one : (t : Side) → option_map_or (held t) o 0 ≡ lots_in rows t a s
    one t = ap (λ it. option_map_or (held t) it 0) at ∙ sym (lots_in-lookup t a s kept.rows.entries) ∙ ap (λ it. lots_in it t a s) view

-- whether a row exists
pub has_row-lookup : (a : AccountId) (s : Symbol) (entries : List (Place × Holding))
    → has_row (map row_of entries) a s ≡ is_some (lookup (same_key (place_of a s)) entries)
has_row-lookup a s [] = refl
has_row-lookup a s (e ∷ entries) = by (same_key (place_of a s) e.0) (has_row-lookup a s entries)
  where
    by : (b : Bool) → has_row (map row_of entries) a s ≡ is_some (lookup (same_key (place_of a s)) entries)
        → (b || has_row (map row_of entries) a s) ≡ is_some (cond b (Some e.1) (lookup (same_key (place_of a s)) entries))
    by true rest = refl
    by false rest = rest

module _ (account : AccountId) (symbol : Symbol) (g : Row → Row) (keeps : (r : Row) → ((g r).account ≡ r.account) × ((g r).symbol ≡ r.symbol)) where
  -- a write for one account and instrument changes that row
  pub rows-set_value : (h w : Holding) → ((k : Place) → row_of (k, w) ≡ g (row_of (k, h))) → (entries : List (Place × Holding)) → IsDistinct same_row (map row_of entries)
      → lookup (same_key (place_of account symbol)) entries ≡ Some h
      → map row_of (set_value (same_key (place_of account symbol)) entries w) ≡ changed account symbol g keeps (map row_of entries)
  unfolding IsDistinct
  rows-set_value h w fits [] once at = cc
  rows-set_value h w fits (e ∷ entries) once at = by (same_key (place_of account symbol) e.0) refl at (rows-set_value h w fits entries once.1)
    where
      by : (b : Bool) → same_key (place_of account symbol) e.0 ≡ b → cond b (Some e.1) (lookup (same_key (place_of account symbol)) entries) ≡ Some h
          → (lookup (same_key (place_of account symbol)) entries ≡ Some h
          → map row_of (set_value (same_key (place_of account symbol)) entries w) ≡ changed account symbol g keeps (map row_of entries))
          → map row_of (cond b ((e.0, w) ∷ entries) (e ∷ set_value (same_key (place_of account symbol)) entries w))
          ≡ cond b (g (row_of e)) (row_of e) ∷ changed account symbol g keeps (map row_of entries)
      by true own there rest =
          let one : e.1 ≡ h = cc in
          let first : row_of (e.0, w) ≡ g (row_of e) = fits e.0 ∙ (λ i. g (row_of (e.0, sym one i))) in
          λ i. first i ∷ sym (rest_unchanged account symbol g keeps (row_of e) (map row_of entries) own once.0) i
      by false own there rest = ap (λ l. row_of e ∷ l) (rest there)

-- the row found by a look-up
found-excess : (entries : List (Place × Holding)) (a : AccountId) (s : Symbol) (h : Holding) (r : Row) → lookup (same_key (place_of a s)) entries ≡ Some h
    → find (is_of a s) (map row_of entries) ≡ Some r → (r.long ≡ h.long) × (r.short ≡ h.short)
found-excess entries a s h r at found = (by Buy, by Sell)
  where
    by : (t : Side) → lots_of t r ≡ held t h
    by t = ap (λ o. option_map_or (lots_of t) o 0) (sym found) ∙ lots_in-lookup t a s entries ∙ ap (λ o. option_map_or (held t) o 0) at

-- after one row with the index of its instrument's open interest is written or added last, each row has it
pub places-updated : (old : Inside) → IsKept old → (new : Inside) (account : AccountId) (symbol : Symbol) (w : Holding) → Updates same_key old.rows new.rows (place_of account symbol) (Some w)
    → KeepsPlaces old.interests.entries new.interests.entries → StandsAt new.interests.entries symbol w.interest
    → (a : AccountId) (s : Symbol) (h : Holding) → get same_key new.rows (place_of a s) ≡ Some h → StandsAt new.interests.entries s h.interest
places-updated old kept new account symbol w updated stay stands a s h there = by (same_key (place_of account symbol) (place_of a s)) refl (sym (updated.0 (place_of a s)) ∙ there)
  where
    by : (b : Bool) → same_key (place_of account symbol) (place_of a s) ≡ b → cond b (Some w) (get same_key old.rows (place_of a s)) ≡ Some h → StandsAt new.interests.entries s h.interest
    by true e is =
        let one : w ≡ h = cc in
        subst (λ (own : Symbol × Holding). StandsAt new.interests.entries own.0 own.1.interest) (λ i. ((same_place-true account symbol a s e).1 i, one i)) stands
    by false e is = stay s h.interest (kept.places a s h is)

module _ (kept : Inside) (is_kept : IsKept kept) (account : AccountId) (symbol : Symbol) (h : Holding) (at : get same_key kept.rows (place_of account symbol) ≡ Some h) where
  -- the row exists
  pub there : has_row (rows_of kept) account symbol ≡ true
  there = has_row-lookup account symbol kept.rows.entries ∙ ap is_some at

  -- an account's excess is at most the open interest
  pub excess-within_interest : h.long - h.short ≤ open_interest_in (rows_of kept) symbol
  excess-within_interest =
      let found = found-among (is_of account symbol) (rows_of kept) there in
      let same = found-excess kept.rows.entries account symbol h found.0 at found.1 in
      let one = (same_place-true account symbol found.0.account found.0.symbol (find-passes (is_of account symbol) (rows_of kept) found.0 found.1)).1 in
      let own : (if same_symbol found.0.symbol symbol then found.0.long - found.0.short else 0) ≡ h.long - h.short =
      ap (λ b. if b then found.0.long - found.0.short else 0) ((λ i. same_symbol found.0.symbol (one i)) ∙ same_symbol-own found.0.symbol) ∙ (λ i. same.0 i - same.1 i) in
      omega (arith, own, found_within_sum (is_of account symbol) (λ r. if same_symbol r.symbol symbol then r.long - r.short else 0) (rows_of kept) found.0 found.1)

  module _ (g : Row → Row) (keeps : (r : Row) → ((g r).account ≡ r.account) × ((g r).symbol ≡ r.symbol)) (w : Holding) (fits : (w.interest ≡ h.interest) × ((k : Place) → row_of (k, w) ≡ g (row_of (k, h)))) where
    excess-changed : (r : Row) → (r.long ≡ h.long) × (r.short ≡ h.short) → (r.long - r.short ≡ h.long - h.short) × ((g r).long - (g r).short ≡ w.long - w.short)
    excess-changed r same =
        let k : Place = place_of r.account r.symbol in
        let as_kept : r ≡ row_of (k, h) = λ i. record { account = r.account; symbol = r.symbol; long = same.0 i; short = same.1 i } in
        ((λ i. same.0 i - same.1 i), ap (λ (x : Row). (g x).long - (g x).short) as_kept ∙ ap (λ (x : Row). x.long - x.short) (sym (fits.1 k)))

    -- the open interest of each instrument after the row is changed
    pub interest-changed : (s : Symbol)
        → open_interest_in (changed account symbol g keeps (rows_of kept)) s + (if same_symbol symbol s then h.long - h.short else 0)
        ≡ open_interest_in (rows_of kept) s + (if same_symbol symbol s then w.long - w.short else 0)
    interest-changed s =
        open_interest-changed account symbol g keeps (rows_of kept) is_kept.once there (h.long - h.short) (w.long - w.short)
        (λ r found. excess-changed r (found-excess kept.rows.entries account symbol h r at found)) s

    -- that of its own instrument loses the old excess and gains the new one
    pub interest-own : open_interest_in (rows_of kept) symbol - (h.long - h.short) + (w.long - w.short) ≡ open_interest_in (changed account symbol g keeps (rows_of kept)) symbol
    interest-own =
        let all : open_interest_in (changed account symbol g keeps (rows_of kept)) symbol + (h.long - h.short) ≡ open_interest_in (rows_of kept) symbol + (w.long - w.short) =
        (λ i. open_interest_in (changed account symbol g keeps (rows_of kept)) symbol + (if sym (same_symbol-own symbol) i then h.long - h.short else 0))
        ∙ interest-changed symbol ∙ (λ i. open_interest_in (rows_of kept) symbol + (if same_symbol-own symbol i then w.long - w.short else 0)) in
        omega (arith, all, excess-within_interest)

    -- after the row is written and its instrument's open interest is updated
    pub kept-changed : (new : Inside)
        → ((side : Side) (s : Symbol) → lots_on (changed account symbol g keeps (rows_of kept)) side s < 2 ^ 64)
        → new.rows.entries ≡ set_value (same_key (place_of account symbol)) kept.rows.entries w
        → Updates same_key kept.rows new.rows (place_of account symbol) (Some w)
        → Updates same_symbol kept.interests new.interests symbol (Some (unwrap_or (get same_symbol kept.interests symbol) 0 - (h.long - h.short) + (w.long - w.short)))
        → KeepsPlaces kept.interests.entries new.interests.entries
        → IsKept new × (rows_of new ≡ changed account symbol g keeps (rows_of kept))
    kept-changed new few written wrote updated stay =
        let view : rows_of new ≡ changed account symbol g keeps (rows_of kept) =
        ap (map row_of) written ∙ rows-set_value account symbol g keeps h w fits.1 kept.rows.entries is_kept.once at in (
          record {
            once = subst (IsDistinct same_row) (sym view) (distinct-changed account symbol g keeps (rows_of kept) is_kept.once);
            few = subst (λ (rows : List Row). (side : Side) (s : Symbol) → lots_on rows side s < 2 ^ 64) (sym view) few;
            places = places-updated kept is_kept new account symbol w wrote stay (subst (StandsAt new.interests.entries symbol) (sym fits.0) (stay symbol h.interest (is_kept.places account symbol h at)));
            interests = λ s. ap (λ o. unwrap_or o 0) (updated.0 s) ∙ interest s (same_symbol symbol s) refl (interest-changed s) ∙ ap (λ rows. open_interest_in rows s) (sym view);
          },
          view,
        )
      where
        interest : (s : Symbol) (b : Bool) → same_symbol symbol s ≡ b
            → open_interest_in (changed account symbol g keeps (rows_of kept)) s + (if b then h.long - h.short else 0) ≡ open_interest_in (rows_of kept) s + (if b then w.long - w.short else 0)
            → unwrap_or (cond b (Some (unwrap_or (get same_symbol kept.interests symbol) 0 - (h.long - h.short) + (w.long - w.short))) (get same_symbol kept.interests s)) 0
            ≡ open_interest_in (changed account symbol g keeps (rows_of kept)) s
        interest s true e sums = ap (λ n. n - (h.long - h.short) + (w.long - w.short)) (is_kept.interests symbol) ∙ interest-own
            ∙ (λ i. open_interest_in (changed account symbol g keeps (rows_of kept)) (same_symbol-true symbol s e i))
        interest s false e sums = is_kept.interests s ∙ omega (arith, sums)

-- empty tables hold nothing
pub kept-empty : (kept : Inside) → kept.rows.entries ≡ [] → kept.interests.entries ≡ [] → IsKept kept
unfolding IsDistinct
kept-empty kept none nothing = record {
  once = subst (λ (es : List (Place × Holding)). IsDistinct same_row (map row_of es)) (sym none) tt;
  few = λ side s. subst (λ (es : List (Place × Holding)). lots_on (map row_of es) side s < 2 ^ 64) (sym none) (omega arith);
  places = λ a s h at. let no : get same_key kept.rows (place_of a s) ≡ None = ap (lookup (same_key (place_of a s))) none in cc;
  interests = λ s. ap (λ es. unwrap_or (lookup (same_symbol s) es) 0) nothing ∙ ap (λ es. open_interest_in (map row_of es) s) (sym none);
}
