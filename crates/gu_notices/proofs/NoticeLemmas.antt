-- Notices collected one after another.
use Rattle.gu_notices.proofs.Words.{◌≡◌, ℕ, zero, suc, ◌+◌, ◌-◌, ◌<◌, ◌≤◌, ◌++◌, List, [], ◌∷◌, length, take, drop, get_or, None, Some, Result, Ok, Err, refl, sym, ap, ◌∙◌, arith, append-nil, append_assoc, subst, nat_lt, inl, inr, flat_map, range_with_len, slice_get, cases_Bool, ltb-false, ltb-true, Entry, Register, Told, told_by, told_from, told_of_line, told_on, told_to, register_in, IsTold}
use Rattle.std.proofs.lemmas.List.{get_or-drop, length-drop, length-take, take_more}
use Rattle.std.proofs.lemmas.List.Concat.{flat_map-append}
use Rattle.std.proofs.lemmas.Option.{get_or_from_slice_get, slice_get_past, slice_get_within}
use Rattle.gu_terms.specs.Numbers.{IsOfferNo}
use Rattle.gu_terms.specs.Same.{same_side}
use Rattle.gu_terms.specs.declared.notice.Notice.{Notice}
use Rattle.gu_terms.specs.declared.report.Report.{Report}
use Rattle.gu_terms.specs.declared.side.Side.{Side}
use Rattle.gu_offers.proofs.NumberLists.{range_with_len-suc}
use Rattle.gu_rules.proofs.StretchLemmas.{told_to-append}
use Rattle.gu_notices.specs.declared.register.Register.{Register as Kept}
use Rattle.gu_notices.specs.declared.mailbox.Mailbox.{Mailbox}

-- these notices were collected so far
abbrev pub IsToldSoFar : Mailbox → Mailbox → List Told → Type 0
IsToldSoFar old new told = IsTold {T = Unit {0}} {E = Unit {0}} old new (Ok tt) told

-- none were
pub told-none : (box : Mailbox) → IsToldSoFar box box []
told-none box = record { firm = refl; list = sym (append-nil box.list.items) }

-- nor are any that aren't for the firm
pub told-skipped : (box : Mailbox) (told : List Told) → told_to box.firm told ≡ [] → IsToldSoFar box box told
told-skipped box told none = record { firm = refl; list = sym (ap (λ (list : List Notice). box.list.items ++ list) none ∙ append-nil box.list.items) }

-- if none were collected before, the firm's are collected
pub told-so-far : (old new : Mailbox) (told : List Told) → old.list.items ≡ [] → IsToldSoFar old new told → new.list.items ≡ told_to old.firm told
told-so-far old new told none is = is.list ∙ ap (λ (list : List Notice). list ++ told_to old.firm told) none

-- followed by others
pub told-then : {T E : Type 0} (old mid new : Mailbox) (result : Result T E) (before after : List Told) → IsToldSoFar old mid before → IsTold mid new result after → IsTold old new result (before ++ after)
told-then old mid new (Err error) before after first then = record { firm = then.firm ∙ first.firm; list = tt }
told-then old mid new (Ok value) before after first then = record {
  firm = then.firm ∙ first.firm;
  list = then.list
      ∙ (λ i. first.list i ++ told_to (first.firm i) after)
      ∙ append_assoc old.list.items (told_to old.firm before) (told_to old.firm after)
      ∙ ap (λ (list : List Notice). old.list.items ++ list) (sym (told_to-append old.firm before after));
}

-- if an allocation failed, the firm is unchanged
pub told-refused : {T E : Type 0} (old mid new : Mailbox) (error : E) (before after told : List Told) → IsToldSoFar old mid before → IsTold {T = T} mid new (Err error) after → IsTold {T = T} old new (Err error) told
told-refused old mid new error before after told first then = record { firm = then.firm ∙ first.firm; list = tt }

-- the same notices
pub told-same : {T E : Type 0} (old new : Mailbox) (result : Result T E) (one two : List Told) → one ≡ two → IsTold old new result one → IsTold old new result two
told-same old new result one two same told = subst (IsTold old new result) same told

-- the notices of some things, and of one more
pub flat_map-next : {X : Type 0} (tell : X → List Told) (items : List X) (i : ℕ) {item : X} → i < length items → item ≡ get_or items i item
    → flat_map tell (take i items) ++ tell item ≡ flat_map tell (take (i + 1) items)
flat_map-next {X} tell items i {item} within is =
    sym (ap (flat_map tell) (take_more items i item within ∙ ap (λ (x : X). take i items ++ x ∷ []) (sym is))
    ∙ flat_map-append tell (take i items) (item ∷ [])
    ∙ ap (λ (told : List Told). flat_map tell (take i items) ++ told) (append-nil (tell item)))

-- the notices of some numbers, and of one more
pub flat_map-range : (tell : ℕ → List Told) (first n : ℕ) → flat_map tell (range_with_len first n) ++ tell (first + n) ≡ flat_map tell (range_with_len first (suc n))
flat_map-range tell first n =
    sym (ap (flat_map tell) (range_with_len-suc first n)
    ∙ flat_map-append tell (range_with_len first n) ((first + n) ∷ [])
    ∙ ap (λ (told : List Told). flat_map tell (range_with_len first n) ++ told) (append-nil (tell (first + n))))

-- the notices of two reports
pub told_on-two : (number : ℕ) (side : Side) (first second : Report) → told_on number side (first ∷ []) ++ told_on number side (second ∷ []) ≡ told_on number side (first ∷ second ∷ [])
told_on-two number side first second =
    elim (cases_Bool (same_side first.side side)) [
      | inl hit ↦ rw hit refl
      | inr miss ↦ rw miss refl
    ]

-- no offer has a number beyond the last
pub no_line : (kept : Kept) (n : ℕ) → length kept.offers.now ≤ 16000000 → (IsOfferNo n → ⊥) → told_of_line (register_in kept) n ≡ []
no_line kept zero few other = refl
no_line kept (suc place) few other =
    elim (cases_Bool (nat_lt place (length kept.offers.now))) [
      | inl hit ↦ absurd (other (record { some = omega arith; most = omega (arith, ltb-true place (length kept.offers.now) hit, few) }))
      | inr miss ↦
          let none : slice_get kept.offers.now place ≡ None = slice_get_past kept.offers.now place (ltb-false place (length kept.offers.now) miss) in
          rw none refl
    ]

-- the notices of entries, and of one more
pub told_from-next : (register : Register) (first : ℕ) (entries : List Entry) (i : ℕ) {entry : Entry} → i < length entries → entry ≡ get_or entries i entry
    → told_from register first (take i entries) ++ told_by register (first + i) entry ≡ told_from register first (take (i + 1) entries)
told_from-next register first entries i {entry} within is =
    sym (ap (told_from register first) (take_more entries i entry within ∙ ap (λ (e : Entry). take i entries ++ e ∷ []) (sym is)) ∙ last (take i entries) first ∙ at)
  where
    last : (before : List Entry) (n : ℕ) → told_from register n (before ++ entry ∷ []) ≡ told_from register n before ++ told_by register (n + length before) entry
    last [] n = append-nil (told_by register n entry) ∙ ap (λ (k : ℕ). told_by register k entry) (omega arith)
    last (e ∷ before) n =
        let next : n + 1 + length before ≡ n + length (e ∷ before) = omega arith in
        ap (λ (told : List Told). told_by register n e ++ told) (last before (n + 1) ∙ ap (λ (k : ℕ). told_from register (n + 1) before ++ told_by register k entry) next)
        ∙ sym (append_assoc (told_by register n e) (told_from register (n + 1) before) (told_by register (n + length (e ∷ before)) entry))

    at : told_from register first (take i entries) ++ told_by register (first + length (take i entries)) entry ≡ told_from register first (take i entries) ++ told_by register (first + i) entry
    at =
        let size : length (take i entries) ≡ i = omega (arith, length-take i entries, within) in
        ap (λ (k : ℕ). told_from register first (take i entries) ++ told_by register (first + k) entry) size

-- the notices of the entries from an index on, and of the next
pub told_at : (register : Register) (start : ℕ) (history : List Entry) (place : ℕ) (entry : Entry) → start ≤ place → slice_get history place ≡ Some entry
    → told_from register (start + 1) (take (place - start) (drop start history)) ++ told_by register (place + 1) entry
    ≡ told_from register (start + 1) (take (place + 1 - start) (drop start history))
told_at register start history place entry behind is =
    let i : ℕ = place - start in
    let rest : List Entry = drop start history in
    let inside : place < length history = slice_get_within history place entry is in
    let there : entry ≡ get_or rest i entry =
    sym (get_or-drop start history i entry ∙ ap (λ (n : ℕ). get_or history n entry) (omega (arith, behind)) ∙ get_or_from_slice_get history place entry entry is) in
    let number : place + 1 ≡ start + 1 + i = omega (arith, behind) in
    let next : i + 1 ≡ place + 1 - start = omega (arith, behind) in
    ap (λ (n : ℕ). told_from register (start + 1) (take i rest) ++ told_by register n entry) number
    ∙ told_from-next register (start + 1) rest i (omega (arith, length-drop start history, inside, behind)) there
    ∙ ap (λ (n : ℕ). told_from register (start + 1) (take n rest)) next

-- before the first of them there were no notices
pub told-nothing : (box : Mailbox) (register : Register) (start : ℕ) (history : List Entry)
    → IsToldSoFar box box (told_from register (start + 1) (take (start - start) (drop start history)))
told-nothing box register start history =
    let none : start - start ≡ 0 = omega arith in
    rw none (told-none box)
