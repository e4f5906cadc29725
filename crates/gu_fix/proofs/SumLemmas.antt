-- Running sums.
use Rattle.std.proofs.Common.{◌≡◌, ℕ, zero, suc, ◌+◌, ◌-◌, ◌%◌, ◌<◌, List, [], ◌∷◌, ◌++◌, length, take, drop, get_or, refl, ap, ◌∙◌, arith, sum}
use Rattle.std.proofs.Math.Nat.{mod-add-mod, add-mod_right}
use Rattle.std.proofs.Math.Seq.{take-add}
use Rattle.std.proofs.lemmas.List.Sums.{sum_by-cons}
use Rattle.gu_fix.specs.Sums.{sum_after, running_sums}

-- a running sum for each byte
pub length-running : (base : ℕ) (bs : List ℕ) → length (running_sums base bs) ≡ length bs
length-running base [] = refl
length-running base (b ∷ bs) = ap suc (length-running ((base + b) % 256) bs)

-- the running sum after further bytes
pub sum_after-append : (base : ℕ) (xs ys : List ℕ) → sum_after base (xs ++ ys) ≡ sum_after (sum_after base xs) ys
sum_after-append base [] ys = refl
sum_after-append base (x ∷ xs) ys = sum_after-append ((base + x) % 256) xs ys

-- the running sums of further bytes
pub running-append : (base : ℕ) (xs ys : List ℕ) → running_sums base (xs ++ ys) ≡ running_sums base xs ++ running_sums (sum_after base xs) ys
running-append base [] ys = refl
running-append base (x ∷ xs) ys = ap (λ (t : List ℕ). (base + x) % 256 ∷ t) (running-append ((base + x) % 256) xs ys)

-- the running sum at an index
pub running-at : (base i : ℕ) (bs : List ℕ) → i < length bs → get_or (running_sums base bs) i 0 ≡ sum_after base (take (suc i) bs)
running-at base i [] l = absurd (omega arith)
running-at base zero (b ∷ bs) l = refl
running-at base (suc i) (b ∷ bs) l = running-at ((base + b) % 256) i bs (omega arith)

-- a running sum is below 256
pub sum_after-small : (base : ℕ) (bs : List ℕ) → base < 256 → sum_after base bs < 256
sum_after-small base [] l = l
sum_after-small base (b ∷ bs) l = sum_after-small ((base + b) % 256) bs (omega arith)

-- it is the sum modulo 256
sum_after_is : (base : ℕ) (bs : List ℕ) → base < 256 → sum_after base bs ≡ (base + sum bs) % 256
sum_after_is base [] l = omega arith
sum_after_is base (b ∷ bs) l =
    sum_after_is ((base + b) % 256) bs (omega arith) ∙ mod-add-mod (base + b) 256 (sum bs) ∙ ap (λ n. n % 256) (omega (arith, sum_by-cons (λ n. n) b bs))

-- the difference of two running sums is the sum between them
pub difference : (base place len : ℕ) (bs : List ℕ) → base < 256
    → (sum_after base (take (place + len) bs) + (256 - sum_after base (take place bs))) % 256 ≡ sum (take len (drop place bs)) % 256
difference base place len bs l =
    let x = sum_after base (take place bs) in
    let s = sum (take len (drop place bs)) in
    let small = sum_after-small base (take place bs) l in
    let y : sum_after base (take (place + len) bs) ≡ (x + s) % 256 =
    ap (sum_after base) (take-add place len bs) ∙ sum_after-append base (take place bs) (take len (drop place bs)) ∙ sum_after_is x (take len (drop place bs)) small in
    let round : x + s + (256 - x) ≡ s + 256 = omega arith in
    ap (λ n. (n + (256 - x)) % 256) y ∙ mod-add-mod (x + s) 256 (256 - x) ∙ ap (λ n. n % 256) round ∙ add-mod_right s 256
