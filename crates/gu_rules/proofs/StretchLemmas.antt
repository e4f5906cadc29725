-- Batches of notices: together they are the whole.
use Rattle.gu_rules.proofs.Words.{◌≡◌, ℕ, zero, suc, ◌+◌, ◌-◌, ◌<◌, ◌≤◌, ◌++◌, List, [], ◌∷◌, length, take, drop, max, refl, sym, ap, ◌∙◌, arith, append_assoc, map, filter, drop-take, length-drop, take_all, map-append, filter-append, Entry, FirmId, same_firm}
use Rattle.std.proofs.Math.Nat.{add-zero, suc-add, zero-add}
use Rattle.gu_rules.specs.BookState.{BookState}
use Rattle.gu_rules.specs.Notices.{Register, Told, notices_between, notices_of, register_of, told_between, told_by, told_from, told_to}

-- the notices of the first entries, followed by those of the others
told_from-parts : (register : Register) (number count : ℕ) (entries : List Entry)
    → told_from register number (take count entries) ++ told_from register (number + count) (drop count entries) ≡ told_from register number entries
told_from-parts register number zero entries = ap (λ (n : ℕ). told_from register n entries) (add-zero number)
told_from-parts register number (suc count) [] = refl
told_from-parts register number (suc count) (entry ∷ later) =
    let next : number + suc count ≡ number + 1 + count = omega arith in
    append_assoc (told_by register number entry) (told_from register (number + 1) (take count later)) (told_from register (number + suc count) (drop count later))
    ∙ ap (λ (n : ℕ). told_by register number entry ++ (told_from register (number + 1) (take count later) ++ told_from register n (drop count later))) next
    ∙ ap (λ (told : List Told). told_by register number entry ++ told) (told_from-parts register (number + 1) count later)

-- this many entries, followed by this many more
take-parts : (count more : ℕ) (entries : List Entry) → take count (take (count + more) entries) ≡ take count entries
take-parts zero more entries = refl
take-parts (suc count) more [] = rw (suc-add count more) refl
take-parts (suc count) more (entry ∷ later) = rw (suc-add count more) (ap (λ (es : List Entry). entry ∷ es) (take-parts count more later))

-- this many entries are dropped, and then more of them
drop-parts : (first count : ℕ) (entries : List Entry) → drop count (drop first entries) ≡ drop (first + count) entries
drop-parts zero count entries = ap (λ (n : ℕ). drop n entries) (sym (zero-add count))
drop-parts (suc first) zero entries = ap (λ (n : ℕ). drop n entries) (sym (add-zero (suc first)))
drop-parts (suc first) (suc count) [] = rw (suc-add first (suc count)) refl
drop-parts (suc first) (suc count) (entry ∷ later) = rw (suc-add first (suc count)) (drop-parts first (suc count) later)

-- the notices to a firm among these and those that follow
pub told_to-append : (firm : FirmId) (before after : List Told) → told_to firm (before ++ after) ≡ told_to firm before ++ told_to firm after
told_to-append firm before after =
    ap (map (λ (t : Told). t.notice)) (filter-append (λ (t : Told). same_firm t.firm firm) before after)
    ∙ map-append (λ (t : Told). t.notice) (filter (λ (t : Told). same_firm t.firm firm) before) (filter (λ (t : Told). same_firm t.firm firm) after)

module _ (register : Register) (history : List Entry) (firm : FirmId) (from mid : ℕ) (onward : from ≤ mid) where
  number : max 1 mid ≡ max 1 from + (mid - max 1 from)
  number = omega (arith, onward)

  later : drop (mid - 1) history ≡ drop (mid - max 1 from) (drop (from - 1) history)
  later =
      let sum : mid - 1 ≡ from - 1 + (mid - max 1 from) = omega (arith, onward) in
      ap (λ (n : ℕ). drop n history) sum ∙ sym (drop-parts (from - 1) (mid - max 1 from) history)

  -- up to a number, and from that number on
  pub joined-rest : told_between register history firm from mid ++ told_to firm (told_from register (max 1 mid) (drop (mid - 1) history))
      ≡ told_to firm (told_from register (max 1 from) (drop (from - 1) history))
  joined-rest =
      let before : List Told = told_from register (max 1 from) (take (mid - max 1 from) (drop (from - 1) history)) in
      sym (told_to-append firm before (told_from register (max 1 mid) (drop (mid - 1) history)))
      ∙ ap (told_to firm)
      ((λ i. before ++ told_from register (number i) (later i))
      ∙ told_from-parts register (max 1 from) (mid - max 1 from) (drop (from - 1) history))

  -- up to a number, and from that number up to another
  pub joined-between : (next : ℕ) → mid ≤ next
      → told_between register history firm from mid ++ told_between register history firm mid next ≡ told_between register history firm from next
  joined-between next onward' =
      let count : ℕ = mid - max 1 from in
      let more : ℕ = next - max 1 mid in
      let rest : List Entry = drop (from - 1) history in
      let all : count + more ≡ next - max 1 from = omega (arith, onward, onward') in
      let before : List Told = told_from register (max 1 from) (take count rest) in
      sym (told_to-append firm before (told_from register (max 1 mid) (take more (drop (mid - 1) history))))
      ∙ ap (told_to firm)
      ((λ i. before ++ told_from register (number i) (take more (later i)))
      ∙ (λ i. told_from register (max 1 from) (sym (take-parts count more rest) i) ++ told_from register (max 1 from + count) (sym (drop-take count more rest) i))
      ∙ told_from-parts register (max 1 from) count (take (count + more) rest)
      ∙ ap (λ (n : ℕ). told_from register (max 1 from) (take n rest)) all)

-- up to the number after the last entry, they are all the notices
pub told_between-all : (register : Register) (history : List Entry) (firm : FirmId) (from next : ℕ) → length history < next
    → told_between register history firm from next ≡ told_to firm (told_from register (max 1 from) (drop (from - 1) history))
told_between-all register history firm from next end =
    ap (λ (entries : List Entry). told_to firm (told_from register (max 1 from) entries))
    (take_all (next - max 1 from) (drop (from - 1) history) (omega (arith, length-drop (from - 1) history, end)))

-- the laws for a book
pub notices-joined : (book : BookState) (firm : FirmId) (from mid next : ℕ) → from ≤ mid → mid ≤ next
    → notices_between book firm from mid ++ notices_between book firm mid next ≡ notices_between book firm from next
notices-joined book firm from mid next onward onward' = joined-between (register_of book) book.history firm from mid onward next onward'

pub notices-joined-rest : (book : BookState) (firm : FirmId) (from mid : ℕ) → from ≤ mid
    → notices_between book firm from mid ++ notices_of book firm mid ≡ notices_of book firm from
notices-joined-rest book firm from mid onward = joined-rest (register_of book) book.history firm from mid onward

pub notices-all : (book : BookState) (firm : FirmId) (from next : ℕ) → length book.history < next → notices_between book firm from next ≡ notices_of book firm from
notices-all book firm from next end = told_between-all (register_of book) book.history firm from next end
