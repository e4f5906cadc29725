-- Lists stored one after another in one list.
use Rattle.gu_view.proofs.Words.{◌≡◌, ℕ, zero, suc, ◌-◌, ◌<◌, ◌≤◌, List, [], ◌∷◌, ◌++◌, Some, length, take, drop, get_or, arith, length-append, ap, ◌∙◌, refl, sym, AllByRecursion, slice_range, slice_get, get_or_append_left, drop_at, drop-append-le, take_all, take-append-le, length-drop, option_map, slice_get-get_or, slice_get-map, lists_at, lists_from, AreEnds}
use Rattle.std.proofs.Math.Seq.{get_or-append_seam}

-- the part after the first of two joined lists
range-behind : (joined list : List ℕ) (from : ℕ) → from ≡ length joined → slice_range (joined ++ list) from (length (joined ++ list)) ≡ list
range-behind joined list from e =
    rw (e, drop_at joined list (length joined) refl) (take_all (length (joined ++ list) - length joined) list (omega (arith, length-append joined list)))

-- a part of the first of two joined lists
range-front : (joined list : List ℕ) (from end : ℕ) → from ≤ end → end ≤ length joined → slice_range (joined ++ list) from end ≡ slice_range joined from end
range-front joined list from end low high =
    ap (take (end - from)) (drop-append-le from joined list (omega arith))
    ∙ take-append-le (end - from) (drop from joined) list (omega (arith, length-drop from joined))

-- an end lies within the whole list
pub AreEnds-start : (whole from : ℕ) (ends : List ℕ) → AreEnds whole from ends → from ≤ whole
AreEnds-start whole from [] h = omega arith
AreEnds-start whole from (end ∷ ends) h = omega (arith, h.0, AreEnds-start whole end ends h.1)

-- one more list follows the others
pub lists_from-push : (joined list : List ℕ) (from : ℕ) (ends : List ℕ) → AreEnds (length joined) from ends
    → lists_from (joined ++ list) from (ends ++ length (joined ++ list) ∷ []) ≡ lists_from joined from ends ++ list ∷ []
lists_from-push joined list from [] h = ap (λ l. l ∷ []) (range-behind joined list from h)
lists_from-push joined list from (end ∷ ends) h =
    ap (λ l. l ∷ lists_from (joined ++ list) end (ends ++ length (joined ++ list) ∷ [])) (range-front joined list from end h.0 (AreEnds-start (length joined) end ends h.1))
    ∙ ap (λ ls. slice_range joined from end ∷ ls) (lists_from-push joined list end ends h.1)

-- the ends with one more
pub AreEnds-push : (whole more from : ℕ) (ends : List ℕ) → whole ≤ more → AreEnds whole from ends → AreEnds more from (ends ++ more ∷ [])
AreEnds-push whole more from [] le h = (omega arith, refl)
AreEnds-push whole more from (end ∷ ends) le h = (h.0, AreEnds-push whole more end ends le h.1)

-- the same if equal lists are stored once, with an index for each
pub lists_at-push : (kept : List (List ℕ)) (list at : List ℕ) → AllByRecursion (λ place. place < length kept) at
    → lists_at (kept ++ list ∷ []) (at ++ length kept ∷ []) ≡ lists_at kept at ++ list ∷ []
lists_at-push kept list [] within = ap (λ l. l ∷ []) (get_or-append_seam kept list [] [])
lists_at-push kept list (place ∷ at) within =
    ap (λ l. l ∷ lists_at (kept ++ list ∷ []) (at ++ length kept ∷ [])) (get_or_append_left kept (list ∷ []) [] place within.0)
    ∙ ap (λ ls. get_or kept place [] ∷ ls) (lists_at-push kept list at within.1)

-- lists stored at the same index are equal
pub alike_at : (kept : List (List ℕ)) (at : List ℕ) (first end n : ℕ) → end ≤ length at → ((place : ℕ) → first ≤ place → place < end → get_or at place 0 ≡ n)
    → (place : ℕ) → first ≤ place → place < end → slice_get (lists_at kept at) place ≡ slice_get (lists_at kept at) first
alike_at kept at first end n inside each place low high = is place low high ∙ sym (is first (omega arith) (omega arith))
  where
    is : (place : ℕ) → first ≤ place → place < end → slice_get (lists_at kept at) place ≡ Some (get_or kept n [])
    is place low high =
        slice_get-map (λ p. get_or kept p []) at place
        ∙ ap (option_map (λ p. get_or kept p [])) (slice_get-get_or at place 0 (omega arith) ∙ ap (λ p. Some p) (each place low high))

-- there are as many lists as ends
pub length-lists_from : (joined : List ℕ) (from : ℕ) (ends : List ℕ) → length (lists_from joined from ends) ≡ length ends
length-lists_from joined from [] = refl
length-lists_from joined from (end ∷ ends) = ap suc (length-lists_from joined end ends)

-- the list at an index lies between two ends
pub list_at : (joined : List ℕ) (from : ℕ) (ends : List ℕ) (place : ℕ) → place < length ends
    → slice_get (lists_from joined from ends) place ≡ Some (slice_range joined (get_or (from ∷ ends) place 0) (get_or ends place 0))
list_at joined from [] place h = absurd (omega arith)
list_at joined from (end ∷ ends) zero h = refl
list_at joined from (end ∷ ends) (suc place) h = list_at joined end ends place (omega arith)

-- these ends are in order, and within the whole
pub ends_in_order : (whole from : ℕ) (ends : List ℕ) (place : ℕ) → AreEnds whole from ends → place < length ends
    → (get_or (from ∷ ends) place 0 ≤ get_or ends place 0) × (get_or ends place 0 ≤ whole)
ends_in_order whole from [] place h within = absurd (omega arith)
ends_in_order whole from (end ∷ ends) zero h within = (h.0, AreEnds-start whole end ends h.1)
ends_in_order whole from (end ∷ ends) (suc place) h within = ends_in_order whole end ends place h.1 (omega arith)
