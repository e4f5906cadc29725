-- Digits without trailing zeros, and the lengths of texts.
use Rattle.std.proofs.Common.{◌≡◌, ◌≢◌, ◌==◌, ◌&&◌, ◌<◌, ◌≤◌, ◌-◌, ◌/◌, ◌++◌, ◌∙◌, ℕ, Bool, true, false, cond, suc, List, [], ◌∷◌, length, take, get_or, refl, ap, sym, append_assoc, arith}
use Rattle.std.specs.Fmt.{decimal}
use Rattle.std.proofs.Math.Seq.{take-suc}
use Rattle.std.proofs.lemmas.Bool.{ne_eqb}
use Rattle.std.proofs.lemmas.Fmt.{length-decimal-le}
use Rattle.std.proofs.lemmas.List.{append-nil, length-append}
use Rattle.gu_terms.specs.WrittenNumbers.{fraction_text, six_digits, trimmed_digits}

-- one more zero changes nothing
trimmed-zero : (ds : List ℕ) → trimmed_digits (ds ++ 48 ∷ []) ≡ trimmed_digits ds
trimmed-zero [] = refl
trimmed-zero (d ∷ ds) = rw (trimmed-zero ds) refl

and_false : (b : Bool) → (b && false) ≡ false
and_false true = refl
and_false false = refl

-- digits that end with another digit are all kept
trimmed-other : (ds : List ℕ) (d : ℕ) → (d == 48) ≡ false → trimmed_digits (ds ++ d ∷ []) ≡ ds ++ d ∷ []
trimmed-other [] d other = rw other refl
trimmed-other (x ∷ ds) d other =
    let some : (length (ds ++ d ∷ []) == 0) ≡ false = ne_eqb (length (ds ++ d ∷ [])) 0 (λ e. omega (arith, length-append ds (d ∷ []))) in
    rw (trimmed-other ds d other, some, and_false (x == 48)) refl

last_taken : (ds : List ℕ) (end : ℕ) → 0 < end → end ≤ length ds → take end ds ≡ take (end - 1) ds ++ get_or ds (end - 1) 0 ∷ []
last_taken ds end some within =
    let next : end ≡ suc (end - 1) = omega arith in
    ap (λ (n : ℕ). take n ds) next ∙ take-suc ds (end - 1) 0 (omega arith)

-- a trailing zero is dropped
pub zero_goes : (ds : List ℕ) (end : ℕ) → 0 < end → end ≤ length ds → get_or ds (end - 1) 0 ≡ 48 → trimmed_digits (take end ds) ≡ trimmed_digits (take (end - 1) ds)
zero_goes ds end some within zero = rw (last_taken ds end some within, zero) (trimmed-zero (take (end - 1) ds))

-- another digit is kept, and so are all before it
pub other_stays : (ds : List ℕ) (end : ℕ) → 0 < end → end ≤ length ds → (get_or ds (end - 1) 0 == 48) ≡ false → trimmed_digits (take end ds) ≡ take end ds
other_stays ds end some within other =
    rw (last_taken ds end some within) (trimmed-other (take (end - 1) ds) (get_or ds (end - 1) 0) other)

-- trimmed digits are no more than the original ones
pub length-trimmed : (ds : List ℕ) → length (trimmed_digits ds) ≤ length ds
length-trimmed [] = omega arith
length-trimmed (d ∷ ds) =
    let P : Bool → Type 0 = λ b. length (cond b [] (d ∷ trimmed_digits ds)) ≤ length (d ∷ ds) in
    let fewer = length-trimmed ds in
    let at : (b : Bool) → P b = λ b. elim b as P [ true ↦ omega arith | false ↦ omega (arith, fewer) ] in
    at (d == 48 && length (trimmed_digits ds) == 0)

-- ---- the parts of a price

-- the units of a price have at most nine digits
pub length-units : (size : ℕ) → size ≤ 999999999999999 → length (decimal (size / 1000000)) ≤ 9
length-units size few = length-decimal-le 9 (size / 1000000) (omega arith) (omega arith) (omega arith)

-- nothing comes after whole units
pub fraction_none : (text : List ℕ) (n : ℕ) → n ≡ 0 → text ≡ text ++ fraction_text n
unfolding fraction_text
fraction_none text n none = rw none (sym (append-nil text))

-- a point and the millionths without trailing zeros
pub fraction_some : (text fraction : List ℕ) (n : ℕ) → n ≢ 0 → fraction ≡ trimmed_digits (six_digits n) → (text ++ 46 ∷ []) ++ fraction ≡ text ++ fraction_text n
unfolding fraction_text
fraction_some text fraction n some is =
    let digits : List ℕ = trimmed_digits (six_digits n) in
    append_assoc text (46 ∷ []) fraction
    ∙ ap (λ (t : List ℕ). text ++ 46 ∷ t) is
    ∙ ap (λ (b : Bool). text ++ cond b [] (46 ∷ digits)) (sym (ne_eqb n 0 some))
