-- Limits as they are now.
use Rattle.gu_book.proofs.Words.{◌≡◌, ℕ, ◌+◌, ◌-◌, ◌<◌, true, List, [], ◌∷◌, ◌++◌, Option, Some, None, is_some, length, map, take, get_or, unwrap_or, refl, sym, ap, append_assoc, ◌∙◌, cons_option, filter_map, option_to_list, take_more, filter_map-append, Entry, Group, LimitKey, Tables, GroupLimit, has_limit, limit_in, row_in, used_in, BookState, keys_in_order, limit_of, limit_row, limit_rows, limit_set, use_of, IsBeside, Totals}
use Rattle.gu_terms.specs.declared.limit_row.LimitRow.{LimitRow}
use Rattle.gu_terms.proofs.Gathered.{filter_map-last}

-- a stored limit is the limit as it is now
pub row_in-is : (reference : Tables) (history : List Entry) (limits : List GroupLimit) (group : Group) (key : LimitKey)
    → has_limit limits group key ≡ is_some (limit_set history group key) → limit_in limits group key ≡ limit_of history group key → used_in limits group key ≡ use_of reference history group key
    → row_in limits group key ≡ limit_row reference history group key
row_in-is reference history limits group key has limit used = by (limit_set history group key) refl
  where
    by : (set : Option ℕ) → limit_set history group key ≡ set → row_in limits group key ≡ limit_row reference history group key
    by None e = rw (has, e) refl
    by (Some lots) e =
        let some : has_limit limits group key ≡ true = has ∙ ap (λ (o : Option ℕ). is_some o) e in
        let most : limit_in limits group key ≡ lots = limit ∙ ap (λ (o : Option ℕ). unwrap_or o 0) e in
        let row : ℕ → ℕ → Option LimitRow = λ l u. Some (record { key = key; limit = l; used = u; room = l - u }) in
        rw (some, e) ((λ i. row (most i) (used i)))

-- so the stored limits of a group are its limits
pub rows-are : (book : BookState) (totals : Totals) (group : Group) → IsBeside book.reference book.history totals
    → filter_map (row_in totals.limits group) (keys_in_order book.reference) ≡ limit_rows book group
rows-are book totals group beside =
    λ i. filter_map (λ key. row_in-is book.reference book.history totals.limits group key (beside.set group key) (beside.limits group key) (beside.uses group key) i)
    (keys_in_order book.reference)

-- what the next item gives
pub filter_map_next : {X Y : Type 0} (given : X → Option Y) (items : List X) (i : ℕ) (item : X) → i < length items → item ≡ get_or items i item
    → filter_map given (take (i + 1) items) ≡ filter_map given (take i items) ++ option_to_list (given item)
filter_map_next {X} given items i item within is =
    ap (filter_map given) (take_more items i item within ∙ ap (λ (x : X). take i items ++ x ∷ []) (sym is))
    ∙ filter_map-last given (take i items) item

-- what the items of keys give, if each is found by its key
keys_given : {X K Y : Type 0} (given : K → Option Y) (key : X → K) (items : List X) → filter_map (λ item. given (key item)) items ≡ filter_map given (map key items)
keys_given given key [] = refl
keys_given given key (x ∷ items) = ap (cons_option (given (key x))) (keys_given given key items)

-- it comes after what the keys before them gave
pub keys_after : {X K Y : Type 0} (given : K → Option Y) (key : X → K) (rows before after : List Y) (keys : List K) (items : List X) → before ≡ rows ++ filter_map given keys
    → after ≡ before ++ filter_map (λ item. given (key item)) items → after ≡ rows ++ filter_map given (keys ++ map key items)
keys_after {Y = Y} given key rows before after keys items first then =
    then ∙ ap (λ (ys : List Y). ys ++ filter_map (λ item. given (key item)) items) first ∙ append_assoc rows (filter_map given keys) (filter_map (λ item. given (key item)) items)
    ∙ ap (λ (ys : List Y). rows ++ (filter_map given keys ++ ys)) (keys_given given key items)
    ∙ ap (λ (ys : List Y). rows ++ ys) (sym (filter_map-append given keys (map key items)))
