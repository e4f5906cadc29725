-- Digits before SOH.
use Rattle.std.proofs.Common.{◌≡◌, ℕ, ◌+◌, ◌*◌, ◌^◌, ◌<◌, ◌≤◌, List, [], ◌∷◌, ◌++◌, length, refl, subst, arith, inl, inr}
use Rattle.std.specs.Char.{digit_value}
use Rattle.std.specs.Str.Parse.{AllDigits, digits_value, digits_value_after}
use Rattle.std.proofs.lemmas.Int.Digits.{digits_value-lt}
use Rattle.std.proofs.Math.Nat.{pow-le-pow_right}
use Rattle.std.specs.Int.{IsOutOfRange}
use Rattle.std.proofs.lemmas.Bool.{cases_lt}
use Rattle.std.proofs.lemmas.Str.Parse.{digit_from_value}
use Rattle.gu_fix.specs.WholeMessage.{soh}
use Rattle.gu_fix.proofs.WholeLemmas.{soh_no_digit}

-- if digits are followed by a byte that isn't SOH, the text continues with that byte
pub longer_digits : (a digits : List ℕ) (b : ℕ) (x y : List ℕ) → AllDigits 10 a → AllDigits 10 digits → (b ≡ soh → ⊥) → a ++ b ∷ x ≡ digits ++ soh ∷ y → (length a < length digits) × (digit_value b < 10)
longer_digits [] [] b x y p q other e = absurd (other cc)
longer_digits [] (d ∷ ds) b x y p q other e =
    let head : d ≡ b = cc in
    let P : ℕ → Type 0 = λ n. digit_value n < 10 in
    (omega arith, subst P head q.0)
longer_digits (c ∷ cs) [] b x y p q other e = absurd (soh_no_digit c p.0 cc)
longer_digits (c ∷ cs) (d ∷ ds) b x y p q other e =
    let tails : cs ++ b ∷ x ≡ ds ++ soh ∷ y = cc in
    let r = longer_digits cs ds b x y p.1 q.1 other tails in
    (omega (arith, r.0), r.1)

-- if only digits have come, the text continues from them
pub digits_front : (a digits x y : List ℕ) → AllDigits 10 a → AllDigits 10 digits → a ++ x ≡ digits ++ soh ∷ y → (tail : List ℕ) × (digits ≡ a ++ tail)
digits_front [] digits x y p q e = (digits, refl)
digits_front (c ∷ cs) [] x y p q e = absurd (soh_no_digit c p.0 cc)
digits_front (c ∷ cs) (d ∷ ds) x y p q e =
    let tails : cs ++ x ≡ ds ++ soh ∷ y = cc in
    let r = digits_front cs ds x y p.1 q.1 tails in
    let same = r.1 in
    (r.0, cc)

-- further digits lower no value
value_after_ge : (n : ℕ) (ds : List ℕ) → n ≤ digits_value_after 10 n ds
value_after_ge n [] = omega arith
value_after_ge n (d ∷ ds) = omega (arith, value_after_ge (n * 10 + digit_value d) ds)

-- nor do digits before them
value_from : (n : ℕ) (a tail : List ℕ) → digits_value_after 10 n a ≤ digits_value_after 10 n (a ++ tail)
value_from n [] tail = value_after_ge n tail
value_from n (c ∷ cs) tail = value_from (n * 10 + digit_value c) cs tail

-- more digits make no smaller number
pub value_grows : (a tail : List ℕ) → digits_value 10 a ≤ digits_value 10 (a ++ tail)
value_grows a tail = value_from 0 a tail

-- a number of at most seven digits
pub value_small : (ds : List ℕ) → AllDigits 10 ds → length ds ≤ 7 → digits_value 10 ds < 10000000
value_small ds all few =
    let bound = digits_value-lt 10 ds all in
    let power : 10 ^ length ds ≤ 10 ^ 7 = pow-le-pow_right {n = 10} (omega arith) few in
    omega arith

-- a byte that isn't a digit has no value below ten
pub no_digit_value : (c : ℕ) → IsOutOfRange 48 57 c → 10 ≤ digit_value c
no_digit_value c out =
    elim (cases_lt (digit_value c) 10) [
      | inl lt ↦
          let within = digit_from_value c lt in
          absurd (elim out [ inl a ↦ omega (arith, within.0) | inr a ↦ omega (arith, within.1) ])
      | inr le ↦ le
    ]

-- the same for eight
pub value_of_eight : (ds : List ℕ) → AllDigits 10 ds → length ds ≤ 8 → digits_value 10 ds < 100000000
value_of_eight ds all few =
    let bound = digits_value-lt 10 ds all in
    let power : 10 ^ length ds ≤ 10 ^ 8 = pow-le-pow_right {n = 10} (omega arith) few in
    omega arith
