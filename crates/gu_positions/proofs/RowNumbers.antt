-- Row numbers: what is stored at one, and that rows keep theirs. The entries of a table keep their indexes too.
use Rattle.gu_positions.proofs.Words.{◌≡◌, ◌∙◌, sym, refl, ap, get_or, ℕ, zero, suc, Bool, true, false, ◌||◌, List, [], ◌∷◌, ◌++◌, map, length, Option, Some, None, slice_get, option_map, option_map_or, set_value_at, StandsAt, AccountId, Symbol, Holding, Place, place_of, row_of, IsMade, IsRowOf, account_at, is_numbered, symbol_at, Row, has_row, is_of}
use Rattle.std.proofs.lemmas.Option.{slice_get-get_or, slice_get-map, slice_get_within}
use Rattle.gu_positions.specs.declared.row_no.RowNo.{RowNo}
use Rattle.gu_positions.proofs.Changed.{changed, is_of-changed}
use Rattle.gu_positions.proofs.Places.{same_key-true, same_place-own, same_place-true}

module _ {X : Type 0} where
  -- items keep their indexes when others are added after them
  pub slice_get-append : (xs ys : List X) (place : ℕ) (x : X) → slice_get xs place ≡ Some x → slice_get (xs ++ ys) place ≡ Some x
  slice_get-append [] ys place x here = cc
  slice_get-append (y ∷ xs) ys zero x here = here
  slice_get-append (y ∷ xs) ys (suc place) x here = slice_get-append xs ys place x here

  -- the index of the last item is the number of those before it
  pub slice_get-last : (xs : List X) (x : X) → slice_get (xs ++ x ∷ []) (length xs) ≡ Some x
  slice_get-last [] x = refl
  slice_get-last (y ∷ xs) x = slice_get-last xs x

module _ (account : AccountId) (symbol : Symbol) where
  -- a row that was made is stored at its number
  pub stands : (entries : List (Place × Holding)) (number : ℕ) → is_numbered (map row_of entries) account symbol number ≡ true → StandsAt entries (place_of account symbol) number
  stands entries number made = by (slice_get entries number) refl (ap (λ o. option_map_or (is_of account symbol) o false) (sym (slice_get-map row_of entries number)) ∙ made)
    where
      by : (o : Option (Place × Holding)) → slice_get entries number ≡ o → option_map_or (is_of account symbol) (option_map row_of o) false ≡ true → StandsAt entries (place_of account symbol) number
      by None e h = cc
      by (Some kept) e h = let one = same_key-true (place_of account symbol) kept.0 h in record { value = kept.1; here = e ∙ (λ i. Some (sym one i, kept.1)) }

  -- what is stored at a number is a row that was made
  pub numbered-kept : (entries : List (Place × Holding)) (number : ℕ) (held : Holding) → slice_get entries number ≡ Some (place_of account symbol, held)
      → is_numbered (map row_of entries) account symbol number ≡ true
  numbered-kept entries number held here =
      ap (λ o. option_map_or (is_of account symbol) o false) (slice_get-map row_of entries number ∙ ap (option_map row_of) here) ∙ same_place-own account symbol

  -- a numbered row exists
  pub has_row-numbered : (rows : List Row) (number : ℕ) → is_numbered rows account symbol number ≡ true → has_row rows account symbol ≡ true
  has_row-numbered [] number made = cc
  has_row-numbered (r ∷ rows) zero made = rw made refl
  has_row-numbered (r ∷ rows) (suc number) made = or_right (is_of account symbol r) (has_row rows account symbol) (has_row-numbered rows number made)
    where
      or_right : (p q : Bool) → q ≡ true → (p || q) ≡ true
      or_right true q h = refl
      or_right false q h = h

  -- rows keep their numbers when others are added after them
  pub numbered-append : (rows more : List Row) (number : ℕ) → is_numbered rows account symbol number ≡ true → is_numbered (rows ++ more) account symbol number ≡ true
  numbered-append [] more number made = cc
  numbered-append (r ∷ rows) more zero made = made
  numbered-append (r ∷ rows) more (suc number) made = numbered-append rows more number made

  -- the number of the last row is the number of those before it
  pub numbered-last : (rows : List Row) (last : Row) → is_of account symbol last ≡ true → is_numbered (rows ++ last ∷ []) account symbol (length rows) ≡ true
  numbered-last rows last own = ap (λ o. option_map_or (is_of account symbol) o false) (slice_get-last rows last) ∙ own

  -- the row with a number is for its account and instrument
  pub row_of-numbered : (rows : List Row) (row : RowNo) → is_numbered rows account symbol row.number ≡ true → IsRowOf rows account symbol row
  row_of-numbered rows row made = by (slice_get rows row.number) refl
    where
      by : (o : Option Row) → slice_get rows row.number ≡ o → IsRowOf rows account symbol row
      by None e = let never : false ≡ true = sym (ap (λ o. option_map_or (is_of account symbol) o false) e) ∙ made in cc
      by (Some r) e =
          let own : is_of account symbol r ≡ true = sym (ap (λ o. option_map_or (is_of account symbol) o false) e) ∙ made in
          let same = same_place-true account symbol r.account r.symbol own in
          let a : account_at rows row ≡ account = ap (λ o. option_map_or (λ (r : Row). r.account) o (record { name = [] })) e ∙ sym same.0 in
          let s : symbol_at rows row ≡ symbol = ap (λ o. option_map_or (λ (r : Row). r.symbol) o (record { name = [] })) e ∙ sym same.1 in
          record { made = slice_get_within rows row.number r e; account_is = a; symbol_is = s }

-- a row that was made has its number
pub numbered-made : (rows : List Row) (row : RowNo) → IsMade rows row → is_numbered rows (account_at rows row) (symbol_at rows row) row.number ≡ true
numbered-made rows row made = by (slice_get rows row.number) refl
  where
    by : (o : Option Row) → slice_get rows row.number ≡ o → is_numbered rows (account_at rows row) (symbol_at rows row) row.number ≡ true
    by None e = let never : None ≡ Some (get_or rows row.number nothing) = sym e ∙ slice_get-get_or rows row.number nothing made in cc
      where
        nothing : Row
        nothing = record { account = record { name = [] }; symbol = record { name = [] }; long = 0; short = 0 }
    by (Some r) e = rw e (same_place-own r.account r.symbol)

module _ (account : AccountId) (symbol : Symbol) where
  -- so has the row for an account and instrument
  pub numbered-row_of : (rows : List Row) (row : RowNo) → IsRowOf rows account symbol row → is_numbered rows account symbol row.number ≡ true
  numbered-row_of rows row it = (λ i. is_numbered rows (sym it.account_is i) (sym it.symbol_is i) row.number) ∙ numbered-made rows row it.made

-- also when one of them is changed
pub numbered-changed : (account : AccountId) (symbol : Symbol) (g : Row → Row) (keeps : (r : Row) → ((g r).account ≡ r.account) × ((g r).symbol ≡ r.symbol))
    (rows : List Row) (a : AccountId) (s : Symbol) (number : ℕ) → is_numbered (changed account symbol g keeps rows) a s number ≡ is_numbered rows a s number
numbered-changed account symbol g keeps [] a s number = refl
numbered-changed account symbol g keeps (r ∷ rows) a s zero = is_of-changed account symbol g keeps a s (is_of account symbol r) r
numbered-changed account symbol g keeps (r ∷ rows) a s (suc number) = numbered-changed account symbol g keeps rows a s number

module _ {K V : Type 0} where
  -- keys keep their indexes when a value is written
  pub stands-set_value_at : (entries : List (K × V)) (place : ℕ) (w : V) (key : K) (at : ℕ) → StandsAt entries key at → StandsAt (set_value_at entries place w) key at
  stands-set_value_at [] place w key at stands = stands
  stands-set_value_at (e ∷ entries) zero w key zero stands = let it : e ≡ (key, stands.value) = let here = stands.here in cc in record { value = w; here = λ i. Some ((it i).0, w) }
  stands-set_value_at (e ∷ entries) zero w key (suc at) stands = record { value = stands.value; here = stands.here }
  stands-set_value_at (e ∷ entries) (suc place) w key zero stands = record { value = stands.value; here = stands.here }
  stands-set_value_at (e ∷ entries) (suc place) w key (suc at) stands =
      let rest = stands-set_value_at entries place w key at (record { value = stands.value; here = stands.here }) in record { value = rest.value; here = rest.here }
