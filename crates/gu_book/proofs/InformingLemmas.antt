-- The firms notified of the entry with a number.
use Rattle.gu_book.proofs.Words.{◌≡◌, ◌≤◌, ◌∙◌, ℕ, ◌+◌, List, length, slice_get, Option, None, Some, IfSome, refl, sym, ap, subst, add-one, entry_at, Entry, Id, with_match, BookState, register_of, told_by, reports_of, AreRecipients, Covers, Holds, FirmFilter, grows-self, recipients-at, HoldsInformed}

-- a set that covers an entry may hold every firm notified of it, as the book is now
covered : (book : BookState) (number : ℕ) (firms : FirmFilter) → ((id : Id) → length (with_match id (reports_of book.history)) ≤ 2) → (found : Option Entry)
    → ((entry : Entry) → found ≡ Some entry → Covers (register_of book) entry firms)
    → IfSome found (λ (entry : Entry). Holds firms (told_by (register_of book) number entry))
covered book number firms sides None covers = tt
covered book number firms sides (Some entry) covers = covers entry refl number (register_of book) (grows-self (register_of book) sides)

-- the entry after an index
at-number : (history : List Entry) (place : ℕ) → entry_at history (place + 1) ≡ slice_get history place
at-number history place = ap (entry_at history) (add-one place)

-- a set that covers the entry at an index may hold every firm notified of it
pub informed-at : (book : BookState) (place : ℕ) (entry : Entry) (firms : FirmFilter) → ((id : Id) → length (with_match id (reports_of book.history)) ≤ 2)
    → slice_get book.history place ≡ Some entry → Covers (register_of book) entry firms → HoldsInformed book (place + 1) firms
informed-at book place entry firms sides at covers =
    covered book (place + 1) firms sides (entry_at book.history (place + 1))
    (λ other is. let same : entry ≡ other = cc (at-number book.history place) in subst (λ (e : Entry). Covers (register_of book) e firms) same covers)

-- so may a set recorded for the entry at an index
pub informed-noted : (book : BookState) (recipients : List FirmFilter) (place : ℕ) (firms : FirmFilter) → ((id : Id) → length (with_match id (reports_of book.history)) ≤ 2)
    → AreRecipients (register_of book) book.history recipients → slice_get recipients place ≡ Some firms → HoldsInformed book (place + 1) firms
informed-noted book recipients place firms sides are at =
    covered book (place + 1) firms sides (entry_at book.history (place + 1))
    (λ entry is. recipients-at (register_of book) book.history recipients place entry firms are (sym (at-number book.history place) ∙ is) at)

-- no entry has number 0, nor a number after the last
pub informed-nobody : (book : BookState) (number : ℕ) (firms : FirmFilter) → entry_at book.history number ≡ None → HoldsInformed book number firms
informed-nobody book number firms none = subst (λ (found : Option Entry). IfSome found (λ (entry : Entry). Holds firms (told_by (register_of book) number entry))) (sym none) tt
