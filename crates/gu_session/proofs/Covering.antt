-- Messages sent again cover each number once.
use Rattle.gu_session.proofs.Words.{◌≡◌, inl, inr, ℕ, ◌+◌, ◌≤◌, Bool, cond, true, false, nat_lt, List, [], ◌∷◌, ◌++◌, refl, sym, subst, is_some, arith, append-nil, FirmId, Outbound, application_of, AreWithin, Covers, HasLongestRuns, again, gap, gap_fill, with_gaps, Sent}

-- a gap fill, and what covers the numbers after it
pub gap_then : (firm : FirmId) (now from mid to : ℕ) (messages : List Outbound) → from ≤ mid → Covers mid to messages → Covers from to (gap firm now from mid ++ messages)
gap_then firm now from mid to messages within rest =
    elim (nat_lt from mid) as (λ (b : Bool). nat_lt from mid ≡ b → Covers from to (cond b (gap_fill firm now from mid ∷ []) [] ++ messages)) [
      | true ↦ λ less. (refl, mid, inr (refl, grind (arith, less)), rest)
      | false ↦ λ more. let same : from ≡ mid = grind (arith, more, within) in subst (λ (n : ℕ). Covers n to messages) (sym same) rest
    ] refl

-- kept messages, with gap fills between them
pub covers_with_gaps : (firm : FirmId) (now from to : ℕ) (kept : List Sent) → AreWithin from to kept → Covers from to (with_gaps firm now from to kept)
covers_with_gaps firm now from to [] within = subst (λ (messages : List Outbound). Covers from to messages) (append-nil (gap firm now from to)) (gap_then firm now from to to [] within refl)
covers_with_gaps firm now from to (sent ∷ later) (above, within) =
    gap_then firm now from sent.number to (again firm now sent ∷ with_gaps firm now (sent.number + 1) to later) above
    (refl, sent.number + 1, inl (refl, refl), covers_with_gaps firm now (sent.number + 1) to later within)

-- an application message before others
pub longest-again : (message : Outbound) (messages : List Outbound) → is_some (application_of message.body) ≡ true → HasLongestRuns messages → HasLongestRuns (message ∷ messages)
longest-again message [] kind rest = tt
longest-again message (other ∷ messages) kind rest = (inl kind, rest)

-- a gap fill before an application message
pub longest-gap : (firm : FirmId) (now from to : ℕ) (message : Outbound) (messages : List Outbound) → is_some (application_of message.body) ≡ true →
    HasLongestRuns (message ∷ messages) → HasLongestRuns (gap firm now from to ++ message ∷ messages)
longest-gap firm now from to message messages kind rest =
    elim (nat_lt from to) as (λ (b : Bool). HasLongestRuns (cond b (gap_fill firm now from to ∷ []) [] ++ message ∷ messages)) [
      | true ↦ (inr kind, rest)
      | false ↦ rest
    ]

-- no two gap fills are adjacent
pub longest_with_gaps : (firm : FirmId) (now from to : ℕ) (kept : List Sent) → HasLongestRuns (with_gaps firm now from to kept)
longest_with_gaps firm now from to [] =
    elim (nat_lt from to) as (λ (b : Bool). HasLongestRuns (cond b (gap_fill firm now from to ∷ []) [])) [
      | true ↦ tt
      | false ↦ tt
    ]
longest_with_gaps firm now from to (sent ∷ later) =
    longest-gap firm now from sent.number (again firm now sent) (with_gaps firm now (sent.number + 1) to later) refl
    (longest-again (again firm now sent) (with_gaps firm now (sent.number + 1) to later) refl (longest_with_gaps firm now (sent.number + 1) to later))
