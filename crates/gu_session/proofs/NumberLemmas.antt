-- New messages, one by one.
use Rattle.gu_session.proofs.Words.{◌≡◌, ℕ, ◌+◌, List, [], ◌∷◌, Some, zero, suc, length, slice_get, refl, ap, subst, arith, FirmId, Body, numbered}
use Rattle.gu_session.specs.Walks.{new_message}

-- the new message at an index
pub numbered-get : (firm : FirmId) (now number : ℕ) (bodies : List Body) (place : ℕ) (body : Body) → slice_get bodies place ≡ Some body →
    slice_get (numbered firm now number bodies) place ≡ Some (new_message firm now (number + place) body)
numbered-get firm now number [] place body here = absurd (cc)
numbered-get firm now number (first ∷ later) zero body here =
    let same : number + 0 ≡ number = omega arith in
    rw same (cc)
numbered-get firm now number (first ∷ later) (suc place) body here =
    subst (λ (n : ℕ). slice_get (numbered firm now (number + 1) later) place ≡ Some (new_message firm now n body)) (omega arith)
    (numbered-get firm now (number + 1) later place body here)

-- there are as many as there are bodies
pub length-numbered : (firm : FirmId) (now number : ℕ) (bodies : List Body) → length (numbered firm now number bodies) ≡ length bodies
length-numbered firm now number [] = refl
length-numbered firm now number (body ∷ bodies) = ap suc (length-numbered firm now (number + 1) bodies)
