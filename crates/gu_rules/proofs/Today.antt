-- Today's entries, after one more entry.
use Rattle.gu_rules.proofs.Words.{◌≡◌, ℕ, ◌+◌, ◌-◌, Bool, true, false, not, List, [], ◌∷◌, ◌++◌, length, drop, Option, Some, None, is_some, ap, ◌∙◌, arith, length-append, if◌then◌else◌, after_last, prefix_len, suffix_len, drop-append-le, reverse-append, drop-length, Day, Entry, entries_today, opened_day}

-- from the end back, the last item comes first
suffix_len-push : {X : Type 0} (p : X → Bool) (xs : List X) (x : X) → suffix_len p (xs ++ x ∷ []) ≡ (if p x then 1 + suffix_len p xs else 0)
suffix_len-push p xs x = ap (prefix_len p) (reverse-append xs (x ∷ []))

-- after an item that doesn't pass, the items after the last that did continue
after_last-kept : {X : Type 0} (p : X → Bool) (xs : List X) (x : X) → p x ≡ false → after_last p (xs ++ x ∷ []) ≡ after_last p xs ++ x ∷ []
after_last-kept {X} p xs x fails =
    let q : X → Bool = λ y. not (p y) in
    let passes : q x ≡ true = ap not fails in
    let size : length (xs ++ x ∷ []) - suffix_len q (xs ++ x ∷ []) ≡ length xs - suffix_len q xs =
    rw (suffix_len-push q xs x, passes) (omega (arith, length-append xs (x ∷ []))) in
    ap (λ (n : ℕ). drop n (xs ++ x ∷ [])) size ∙ drop-append-le (length xs - suffix_len q xs) xs (x ∷ []) (omega arith)

-- after one that passes, there are none
after_last-new : {X : Type 0} (p : X → Bool) (xs : List X) (x : X) → p x ≡ true → after_last p (xs ++ x ∷ []) ≡ []
after_last-new {X} p xs x passes =
    let q : X → Bool = λ y. not (p y) in
    let fails : q x ≡ false = ap not passes in
    let size : length (xs ++ x ∷ []) - suffix_len q (xs ++ x ∷ []) ≡ length (xs ++ x ∷ []) =
    rw (suffix_len-push q xs x, fails) (omega arith) in
    ap (λ (n : ℕ). drop n (xs ++ x ∷ [])) size ∙ drop-length (xs ++ x ∷ [])

-- an entry that opens no day is one of today's
pub entries_today-kept : (history : List Entry) (entry : Entry) → opened_day entry ≡ None → entries_today (history ++ entry ∷ []) ≡ entries_today history ++ entry ∷ []
entries_today-kept history entry none = after_last-kept (λ e. is_some (opened_day e)) history entry (ap (λ (d : Option Day). is_some d) none)

-- there are no entries after an opening
pub entries_today-new : (history : List Entry) (entry : Entry) (day : Day) → opened_day entry ≡ Some day → entries_today (history ++ entry ∷ []) ≡ []
entries_today-new history entry day opens = after_last-new (λ e. is_some (opened_day e)) history entry (ap (λ (d : Option Day). is_some d) opens)
