-- A view is its group's.
use Rattle.gu_book.proofs.Words.{◌≡◌, ℕ, ◌+◌, ◌<◌, ◌++◌, List, [], ◌∷◌, length, take, drop, get_or, Option, sym, ap, ◌∙◌, append_assoc, take-append-drop, filter_map, option_to_list, append_cancel_left, drop_more, take_more, filter_map-append}
use Rattle.gu_terms.proofs.Gathered.{filter_map-last}

-- the list of given elements, split into those of the items before one, of the item, and of those after it
filter_map-at : {X Y : Type 0} (given : X → Option Y) (items : List X) (i : ℕ) (d : X) → i < length items
    → filter_map given items ≡ filter_map given (take i items) ++ (option_to_list (given (get_or items i d)) ++ filter_map given (drop (i + 1) items))
filter_map-at {X} {Y} given items i d within =
    let rest = drop_more items i d within in
    ap (filter_map given) (sym (take-append-drop i items) ∙ ap (λ (xs : List X). take i items ++ xs) rest)
    ∙ filter_map-append given (take i items) (get_or items i d ∷ drop (i + 1) items)
    ∙ ap (λ (ys : List Y). filter_map given (take i items) ++ ys)
    (filter_map-append given (get_or items i d ∷ []) (drop (i + 1) items) ∙ ap (λ (ys : List Y). ys ++ filter_map given (drop (i + 1) items)) (filter_map-last given [] (get_or items i d)))

-- the remaining given elements begin with what the next item gives
pub rest-begins : {X Y : Type 0} (given : X → Option Y) (items : List X) (i : ℕ) (d : X) (all rest : List Y) → i < length items
    → all ≡ filter_map given (take i items) ++ rest → all ≡ filter_map given items → rest ≡ option_to_list (given (get_or items i d)) ++ filter_map given (drop (i + 1) items)
rest-begins given items i d all rest within so_far whole =
    append_cancel_left (filter_map given (take i items)) rest (option_to_list (given (get_or items i d)) ++ filter_map given (drop (i + 1) items)) (sym so_far ∙ whole ∙ filter_map-at given items i d within)

-- the elements given so far, followed by what the next item gives
pub given-next : {X Y : Type 0} (given : X → Option Y) (items : List X) (i : ℕ) (d : X) (all rest others : List Y) → i < length items
    → all ≡ filter_map given (take i items) ++ rest → rest ≡ option_to_list (given (get_or items i d)) ++ others → all ≡ filter_map given (take (i + 1) items) ++ others
given-next {Y = Y} given items i d all rest others within so_far begins =
    so_far
    ∙ ap (λ (ys : List Y). filter_map given (take i items) ++ ys) begins
    ∙ sym (append_assoc (filter_map given (take i items)) (option_to_list (given (get_or items i d))) others)
    ∙ ap (λ (ys : List Y). ys ++ others) (sym (ap (filter_map given) (take_more items i d within) ∙ filter_map-last given (take i items) (get_or items i d)))
