-- Prefixes of a history.
use Rattle.gu_desk.proofs.Words.{◌≡◌, ℕ, suc, ◌+◌, ◌-◌, ◌<◌, ◌≤◌, List, [], ◌∷◌, ◌++◌, Some, get_or, length, take, drop, sym, ap, ◌∙◌, arith, append_assoc, length-append, take-append-drop, slice_get, take-append_seam, get_or-drop, length-drop, get_or_from_slice_get, slice_get-get_or, slice_get_within, swept_by, Entry, Receipt, GroupView, BookState, group_view, Enters, Sees, SeatState}
use mathlib.Core.List.{IsPrefix}
use Rattle.gu_ref.specs.Tables.{Tables}
use Rattle.gu_rules.specs.Legal.{IsLegal}
use Rattle.gu_rules.specs.Versions.{version_of}
use Rattle.gu_rules.proofs.EqualViews.{equal_views}
use Rattle.gu_desk.proofs.AuditLemmas.{take_at}

-- the first entries are a prefix
pub take_begins : (n : ℕ) (history : List Entry) → IsPrefix (take n history) history
take_begins n history = (drop n history, take-append-drop n history)

-- a prefix of a prefix is a prefix
pub begins_through : (first second third : List Entry) → IsPrefix first second → IsPrefix second third → IsPrefix first third
begins_through first second third p q = (p.0 ++ q.0, sym (append_assoc first p.0 q.0) ∙ ap (λ (w : List Entry). w ++ q.0) p.1 ∙ q.1)

-- a prefix is the first entries
pub first_entries : (front history : List Entry) → IsPrefix front history → take (length front) history ≡ front
first_entries front history p = ap (take (length front)) (sym p.1) ∙ take-append_seam front p.0

-- and is no longer than the whole
pub no_longer : (front history : List Entry) → IsPrefix front history → length front ≤ length history
no_longer front history p =
    let size : length history ≡ length front + length p.0 = ap {A = List Entry} length (sym p.1) ∙ length-append front p.0 in omega (arith, size)

-- the requirement of a commit for a view that was seen at a prefix
pub honest : (reference : Tables) (front history : List Entry) (view : GroupView) → IsPrefix front history → IsLegal reference history
    → view ≡ group_view reference front view.group
    → view.version ≡ version_of history view.group → view ≡ group_view reference history view.group
honest reference front history view p legal seen same =
    let version : version_of front view.group ≡ view.version = sym (ap (λ (v : GroupView). v.version) seen) in
    seen ∙ equal_views reference front history view.group p legal (version ∙ same)

-- what is entered from a seat after it has seen more is entered from the seat
pub enters_after : (reference : Tables) (old mid new : SeatState) (receipt : Receipt) → Sees reference old mid → Enters reference mid receipt new
    → Enters reference old receipt new
enters_after reference old mid new receipt sees enters =
    record {
      before = enters.before;
      begins = begins_through old.front mid.front enters.before sees.begins enters.begins;
      front_is = enters.front_is;
      legal = enters.legal;
      number_is = enters.number_is;
      entries_is = omega (arith, enters.entries_is, sees.entries_is);
      swept_is = enters.swept_is ∙ ap (λ (n : ℕ). n + swept_by receipt.entry) sees.swept_is;
    }

-- one more entry of a history after its first ones
pub one_more : (history : List Entry) (first place : ℕ) (entry : Entry) → first ≤ place → slice_get history place ≡ Some entry
    → take (place + 1 - first) (drop first history) ≡ take (place - first) (drop first history) ++ entry ∷ []
one_more history first place entry low at =
    let there : first + (place - first) ≡ place = omega arith in
    let inside = slice_get_within history place entry at in
    let here : get_or (drop first history) (place - first) entry ≡ entry =
    get_or-drop first history (place - first) entry ∙ ap (λ (n : ℕ). get_or history n entry) there ∙ get_or_from_slice_get history place entry entry at in
    let within : place - first < length (drop first history) = omega (arith, inside, length-drop first history) in
    let found = slice_get-get_or (drop first history) (place - first) entry within ∙ ap Some here in
    let count : place + 1 - first ≡ suc (place - first) = omega arith in
    ap (λ (n : ℕ). take n (drop first history)) count ∙ take_at (drop first history) (place - first) entry found

-- a book with this reference and history
pub book_is : (reference : Tables) (history : List Entry) (book : BookState) → book.reference ≡ reference → book.history ≡ history
    → book ≡ record { reference = reference; history = history }
book_is reference history book first second = λ i. record { reference = first i; history = second i }
