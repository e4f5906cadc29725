-- Lots added to a stored row, and lots taken from one.
use Rattle.gu_positions.proofs.Words.{◌≡◌, ◌∙◌, sym, refl, ap, subst, ℕ, ◌+◌, ◌-◌, ◌<◌, ◌≤◌, ◌^◌, Bool, true, false, ◌&&◌, Some, unwrap_or, arith, if◌then◌else◌, option_map_or, get, Updates, AccountId, Side, Buy, Sell, Symbol, same_side, same_symbol, StandsAt, Holding, Place, Inside, less_in, more_in, with_less, with_more, held, less, more, IsKept, KeepsPlaces, place_of, row_of, rows_of, same_key, is_numbered, Row, lots_in, lots_on, open_interest_in, same_symbol-true}
use Rattle.std.specs.Map.{set_value}
use Rattle.gu_positions.proofs.Changed.{changed, lots_in-within, lots_on-with_less, lots_on-with_more, open_interest-within}
use Rattle.gu_positions.proofs.KeptLots.{excess-within_interest, interest-own, kept-changed, lots_in-lookup}
use Rattle.gu_positions.proofs.RowNumbers.{has_row-numbered}
use Rattle.gu_terms.proofs.SameValues.{both}

-- a stored row with more lots is the row with more, and its instrument's open interest keeps its index
pub row_of-more : (side : Side) (lots : ℕ) (h w : Holding) → w ≡ more side lots h → (w.interest ≡ h.interest) × ((k : Place) → row_of (k, w) ≡ more_in side lots (row_of (k, h)))
row_of-more Buy lots h w is = (λ i. (is i).interest, λ k. ap (λ h. row_of (k, h)) is)
row_of-more Sell lots h w is = (λ i. (is i).interest, λ k. ap (λ h. row_of (k, h)) is)

-- the same with fewer lots
pub row_of-less : (side : Side) (lots : ℕ) (h w : Holding) → w ≡ less side lots h → (w.interest ≡ h.interest) × ((k : Place) → row_of (k, w) ≡ less_in side lots (row_of (k, h)))
row_of-less Buy lots h w is = (λ i. (is i).interest, λ k. ap (λ h. row_of (k, h)) is)
row_of-less Sell lots h w is = (λ i. (is i).interest, λ k. ap (λ h. row_of (k, h)) is)

same_side-true : (a b : Side) → same_side a b ≡ true → a ≡ b
same_side-true Buy Buy h = refl
same_side-true Sell Sell h = refl
same_side-true _ _ h = cc

module _ (kept : Inside) (is_kept : IsKept kept) (side : Side) (account : AccountId) (symbol : Symbol) (lots : ℕ) where
  -- lots that fit into the total fit into a row
  pub fits : (was : Holding) → get same_key kept.rows (place_of account symbol) ≡ Some was → lots_on (rows_of kept) side symbol + lots < 2 ^ 64 → held side was + lots < 2 ^ 64
  fits was at room = omega (arith, room, lots_in-lookup side account symbol kept.rows.entries ∙ ap (λ o. option_map_or (held side) o 0) at, lots_in-within (rows_of kept) side account symbol)

  -- lots that an account has are in its row
  pub enough : (was : Holding) → get same_key kept.rows (place_of account symbol) ≡ Some was → lots ≤ lots_in (rows_of kept) side account symbol → lots ≤ held side was
  enough was at has = subst (λ n. lots ≤ n) (lots_in-lookup side account symbol kept.rows.entries ∙ ap (λ o. option_map_or (held side) o 0) at) has

  -- totals stay below 2^64 when lots that fit are added
  pub few-more : (number : ℕ) → is_numbered (rows_of kept) account symbol number ≡ true → lots_on (rows_of kept) side symbol + lots < 2 ^ 64
      → (t : Side) (s : Symbol) → lots_on (with_more (rows_of kept) side account symbol lots) t s < 2 ^ 64
  few-more number made room t s =
      subst (λ n. n < 2 ^ 64) (sym (lots_on-with_more (rows_of kept) side account symbol lots is_kept.once (has_row-numbered account symbol (rows_of kept) number made) t s)) (by (same_side side t && same_symbol symbol s) refl)
    where
      by : (b : Bool) → (same_side side t && same_symbol symbol s) ≡ b → lots_on (rows_of kept) t s + (if b then lots else 0) < 2 ^ 64
      by true e =
          let p = both (same_side side t) (same_symbol symbol s) e in
          let here : lots_on (rows_of kept) side symbol ≡ lots_on (rows_of kept) t s = λ i. lots_on (rows_of kept) (same_side-true side t p.0 i) (same_symbol-true symbol s p.1 i) in
          omega (arith, here, room)
      by false e = omega (arith, is_kept.few t s)

  -- and when lots are taken
  pub few-less : (number : ℕ) → is_numbered (rows_of kept) account symbol number ≡ true → lots ≤ lots_in (rows_of kept) side account symbol
      → (t : Side) (s : Symbol) → lots_on (with_less (rows_of kept) side account symbol lots) t s < 2 ^ 64
  few-less number made has t s =
      omega (arith, lots_on-with_less (rows_of kept) side account symbol lots is_kept.once (has_row-numbered account symbol (rows_of kept) number made) has t s, is_kept.few t s)

module _ (kept : Inside) (is_kept : IsKept kept) (account : AccountId) (symbol : Symbol) (g : Row → Row) (keeps : (r : Row) → ((g r).account ≡ r.account) × ((g r).symbol ≡ r.symbol))
    (was w : Holding) (at : get same_key kept.rows (place_of account symbol) ≡ Some was) (each : (w.interest ≡ was.interest) × ((k : Place) → row_of (k, w) ≡ g (row_of (k, was))))
    (few : (t : Side) (s : Symbol) → lots_on (changed account symbol g keeps (rows_of kept)) t s < 2 ^ 64)
    (before after : ℕ) (before_is : before ≡ was.long - was.short) (after_is : after ≡ w.long - w.short) where
  -- the open interest is at its index, is large enough, and doesn't overflow when it is updated
  pub settles : (s : Symbol) × StandsAt kept.interests.entries s was.interest × (before ≤ unwrap_or (get same_symbol kept.interests s) 0)
      × (unwrap_or (get same_symbol kept.interests s) 0 - before + after < 2 ^ 64)
  settles =
      let enough : before ≤ unwrap_or (get same_symbol kept.interests symbol) 0 = omega (arith, before_is, is_kept.interests symbol, excess-within_interest kept is_kept account symbol was at) in
      let follows : unwrap_or (get same_symbol kept.interests symbol) 0 - before + after ≡ open_interest_in (changed account symbol g keeps (rows_of kept)) symbol =
      (λ i. is_kept.interests symbol i - before_is i + after_is i) ∙ interest-own kept is_kept account symbol was at g keeps w each in
      let fits : unwrap_or (get same_symbol kept.interests symbol) 0 - before + after < 2 ^ 64 =
      omega (arith, follows, open_interest-within (changed account symbol g keeps (rows_of kept)) symbol, few Buy symbol) in
      (symbol, is_kept.places account symbol was at, enough, fits)

  -- everything is then stored correctly
  pub keeps-written : (later : Inside) → later.rows.entries ≡ set_value (same_key (place_of account symbol)) kept.rows.entries w
      → Updates same_key kept.rows later.rows (place_of account symbol) (Some w)
      → ((s : Symbol) → StandsAt kept.interests.entries s was.interest → Updates same_symbol kept.interests later.interests s (Some (unwrap_or (get same_symbol kept.interests s) 0 - before + after)))
      → KeepsPlaces kept.interests.entries later.interests.entries
      → IsKept later × (rows_of later ≡ changed account symbol g keeps (rows_of kept))
  keeps-written later is wrote settled stay =
      kept-changed kept is_kept account symbol was at g keeps w each later few is wrote
      (subst (λ n. Updates same_symbol kept.interests later.interests symbol (Some n))
      (λ i. unwrap_or (get same_symbol kept.interests symbol) 0 - before_is i + after_is i) (settled symbol (is_kept.places account symbol was at)))
      stay
