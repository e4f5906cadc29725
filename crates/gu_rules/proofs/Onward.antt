-- A property of no entries that one more entry keeps is one of every legal history.
use Rattle.gu_rules.proofs.Words.{◌≡◌, ℕ, ◌<◌, ◌++◌, List, [], ◌∷◌, length, slice_get, take, Some, refl, sym, ap, ◌∙◌, arith, append_assoc, append-nil, subst, take-append_seam, length-take, slice_get_within, Entry, Tables, IsLegal, MayFollow}

-- the entry after others is at their number
seam : (before later : List Entry) (entry : Entry) → slice_get (before ++ entry ∷ later) (length before) ≡ Some entry
seam [] later entry = refl
seam (first ∷ before) later entry = seam before later entry

-- a property of no entries that each next entry of a history keeps is one of the whole
pub onward : (history : List Entry) (P : List Entry → Type 0) → ((k : ℕ) (entry : Entry) → slice_get history k ≡ Some entry → P (take k history) → P (take k history ++ entry ∷ []))
    → (before later : List Entry) → history ≡ before ++ later → P before → P history
onward history P more before [] is holds = subst P (sym (is ∙ append-nil before)) holds
onward history P more before (entry ∷ later) is holds =
    let at : slice_get history (length before) ≡ Some entry = ap (λ (h : List Entry). slice_get h (length before)) is ∙ seam before later entry in
    let front : take (length before) history ≡ before = ap (take (length before)) is ∙ take-append_seam before (entry ∷ later) in
    onward history P more (before ++ entry ∷ []) later (is ∙ sym (append_assoc before (entry ∷ []) later))
    (subst (λ (h : List Entry). P (h ++ entry ∷ [])) front (more (length before) entry at (subst P (sym front) holds)))

-- a property of no entries that each entry that may follow keeps is one of a legal history
pub each_legal : (reference : Tables) (P : List Entry → Type 0) → P [] → ((before : List Entry) (entry : Entry) → length before < 1000000 → MayFollow reference before entry → P before → P (before ++ entry ∷ []))
    → (history : List Entry) → IsLegal reference history → P history
each_legal reference P none more history legal = onward history P next [] history refl none
  where
    next : (k : ℕ) (entry : Entry) → slice_get history k ≡ Some entry → P (take k history) → P (take k history ++ entry ∷ [])
    next k entry at holds =
        let within = slice_get_within history k entry at in
        let room : length (take k history) < 1000000 = omega (arith, length-take k history, legal.within, within) in
        more (take k history) entry room (legal.each k entry at) holds
