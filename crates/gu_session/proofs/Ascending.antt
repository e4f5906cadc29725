-- The numbers of kept messages ascend, below the next number.
use Rattle.gu_session.proofs.Words.{◌≡◌, ℕ, ◌+◌, ◌<◌, ◌≤◌, max, Bool, cond, true, false, ◌&&◌, nat_lt, nat_le, List, [], ◌∷◌, ◌++◌, filter_map, length, drop, Option, None, Some, suc, zero, refl, subst, arith, FirmId, Body, application_of, sent_within, numbered, sent_in, Sent, AreWithin}
use Rattle.gu_msgs.specs.declared.outbound.Application.{Application}

-- the same from an earlier number
pub within-lower : (low from to : ℕ) (kept : List Sent) → low ≤ from → AreWithin from to kept → AreWithin low to kept
within-lower low from to [] below within = omega (arith, below, within)
within-lower low from to (sent ∷ later) below (above, within) = (omega (arith, below, above), within)

-- one list after another
pub within-append : (from mid to : ℕ) (xs ys : List Sent) → AreWithin from mid xs → AreWithin mid to ys → AreWithin from to (xs ++ ys)
within-append from mid to [] ys first second = within-lower from mid to ys first second
within-append from mid to (x ∷ xs) ys (above, first) second = (above, within-append (x.number + 1) mid to xs ys first second)

-- without the first ones
pub within-drop : (n from to : ℕ) (kept : List Sent) → AreWithin from to kept → AreWithin from to (drop n kept)
within-drop zero from to kept within = within
within-drop (suc n) from to [] within = within
within-drop (suc n) from to (sent ∷ later) (above, within) = within-drop n from to later (within-lower from (sent.number + 1) to later (omega (arith, above)) within)

-- a new message, if it is to be kept, before later ones
pub within-first : (firm : FirmId) (now number to : ℕ) (body : Body) (bodies : List Body) (found : Option Application) → application_of body ≡ found → number < to →
    AreWithin (number + 1) to (filter_map sent_in (numbered firm now (number + 1) bodies)) → AreWithin number to (filter_map sent_in (numbered firm now number (body ∷ bodies)))
within-first firm now number to body bodies None is below rest =
    rw is (within-lower number (number + 1) to (filter_map sent_in (numbered firm now (number + 1) bodies)) (omega arith) rest)
within-first firm now number to body bodies (Some application) is below rest = rw is (omega arith, rest)

-- the application messages among new ones
pub within-numbered : (firm : FirmId) (now number : ℕ) (bodies : List Body) → AreWithin number (number + length bodies) (filter_map sent_in (numbered firm now number bodies))
within-numbered firm now number [] = omega arith
within-numbered firm now number (body ∷ bodies) =
    let later = filter_map sent_in (numbered firm now (number + 1) bodies) in
    let rest : AreWithin (number + 1) (number + length (body ∷ bodies)) later =
    subst (λ (n : ℕ). AreWithin (number + 1) n later) (omega arith) (within-numbered firm now (number + 1) bodies) in
    within-first firm now number (number + length (body ∷ bodies)) body bodies (application_of body) refl (omega arith) rest

-- those with numbers of a range
pub within-range : (low first to from high : ℕ) (kept : List Sent) → AreWithin from high kept → low ≤ max from first → low ≤ to → AreWithin low to (sent_within first to kept)
within-range low first to from high [] within above below = below
within-range low first to from high (sent ∷ later) (reach, within) above below =
    elim (nat_le first sent.number && nat_lt sent.number to) as (λ (b : Bool). (nat_le first sent.number && nat_lt sent.number to) ≡ b → AreWithin low to (cond b (sent ∷ sent_within first to later) (sent_within first to later))) [
      | true ↦ λ is. let ends : (first ≤ sent.number) × (sent.number < to) = grind (arith, is) in
          (omega (arith, reach, above, ends.0), within-range (sent.number + 1) first to (sent.number + 1) high later within (omega arith) (omega (arith, ends.1)))
      | false ↦ λ is. within-range low first to (sent.number + 1) high later within (omega (arith, reach, above)) below
    ] refl
