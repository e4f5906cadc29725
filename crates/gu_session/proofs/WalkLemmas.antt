-- Messages sent again, one by one.
use Rattle.gu_session.proofs.Words.{◌≡◌, ℕ, ◌+◌, Bool, cond, true, false, ◌&&◌, nat_le, nat_lt, List, [], ◌∷◌, ◌++◌, None, Some, slice_get, drop, refl, ap, sym, ◌∙◌, append_assoc, zero, suc, arith, FirmId, Outbound, again, gap, sent_within, with_gaps, Sent}
use Rattle.gu_session.specs.Walks.{asked_now, at_after}

-- the message at an index is the first of those from there on
pub drop-at : (items : List Sent) (place : ℕ) (sent : Sent) → slice_get items place ≡ Some sent → drop place items ≡ sent ∷ drop (suc place) items
drop-at [] place sent here = absurd (cc)
drop-at (first ∷ later) zero sent here = let same : first ≡ sent = cc in ap (λ (x : Sent). x ∷ later) same
drop-at (first ∷ later) (suc place) sent here = drop-at later place sent here

-- if there is no message at an index, there is none after it
pub drop-past : (items : List Sent) (place : ℕ) → slice_get items place ≡ None → drop (suc place) items ≡ drop place items
drop-past [] zero none = refl
drop-past [] (suc place) none = refl
drop-past (first ∷ later) zero none = absurd (cc)
drop-past (first ∷ later) (suc place) none = drop-past later place none

-- a message adds its part, and the others continue from there
pub with_gaps-more : (firm : FirmId) (now from to at : ℕ) (sent : Sent) (later : List Sent) →
    asked_now firm now from to at sent ++ with_gaps firm now (at_after from to at sent) to (sent_within from to later)
    ≡ with_gaps firm now at to (sent_within from to (sent ∷ later))
with_gaps-more firm now from to at sent later =
    elim (nat_le from sent.number && nat_lt sent.number to) as (λ (b : Bool).
    cond b (gap firm now at sent.number ++ again firm now sent ∷ []) [] ++ with_gaps firm now (cond b (sent.number + 1) at) to (sent_within from to later)
    ≡ with_gaps firm now at to (cond b (sent ∷ sent_within from to later) (sent_within from to later))) [
      | true ↦ append_assoc (gap firm now at sent.number) (again firm now sent ∷ []) (with_gaps firm now (sent.number + 1) to (sent_within from to later))
      | false ↦ refl
    ]

-- one more index of a walk
pub walk_on : (firm : FirmId) (now from to at : ℕ) (items : List Sent) (place : ℕ) (sent : Sent) (messages all : List Outbound) → slice_get items place ≡ Some sent →
    messages ++ with_gaps firm now at to (sent_within from to (drop place items)) ≡ all →
    (messages ++ asked_now firm now from to at sent) ++ with_gaps firm now (at_after from to at sent) to (sent_within from to (drop (place + 1) items)) ≡ all
walk_on firm now from to at items place sent messages all here so_far =
    let next : place + 1 ≡ suc place = omega arith in
    append_assoc messages (asked_now firm now from to at sent) (with_gaps firm now (at_after from to at sent) to (sent_within from to (drop (place + 1) items)))
    ∙ ap (λ (n : ℕ). messages ++ (asked_now firm now from to at sent ++ with_gaps firm now (at_after from to at sent) to (sent_within from to (drop n items)))) next
    ∙ ap (λ (wires : List Outbound). messages ++ wires) (with_gaps-more firm now from to at sent (drop (suc place) items))
    ∙ ap (λ (kept : List Sent). messages ++ with_gaps firm now at to (sent_within from to kept)) (sym (drop-at items place sent here))
    ∙ so_far

-- an index past the end adds nothing
pub walk_past : (firm : FirmId) (now from to at : ℕ) (items : List Sent) (place : ℕ) (messages all : List Outbound) → slice_get items place ≡ None →
    messages ++ with_gaps firm now at to (sent_within from to (drop place items)) ≡ all →
    messages ++ with_gaps firm now at to (sent_within from to (drop (place + 1) items)) ≡ all
walk_past firm now from to at items place messages all none so_far =
    let next : place + 1 ≡ suc place = omega arith in
    ap (λ (n : ℕ). messages ++ with_gaps firm now at to (sent_within from to (drop n items))) next
    ∙ ap (λ (kept : List Sent). messages ++ with_gaps firm now at to (sent_within from to kept)) (drop-past items place none) ∙ so_far
