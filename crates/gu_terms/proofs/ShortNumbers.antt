-- The value of a short number text.
use Rattle.std.proofs.Common.{◌≡◌, ◌↔◌, ◌<◌, ◌≤◌, ◌+◌, ◌-◌, ◌*◌, ◌^◌, ◌++◌, ◌∙◌, ℕ, pos, neg_ℤ, Bool, false, cond, List, [], ◌∷◌, Option, Some, None, IsSome, IfSome, length, suc, take, drop, get_or, refl, ap, sym, subst, arith}
use Rattle.std.specs.Str.Parse.{AllDigits, digits_value}
use Rattle.std.proofs.Math.Nat.{mul_assoc, mul-le-mul_right}
use Rattle.std.proofs.Math.Seq.{drop-cons}
use Rattle.std.proofs.lemmas.Nat.{pow-add}
use Rattle.std.proofs.lemmas.List.{append-nil, length-take, take-append-drop}
use Rattle.gu_terms.specs.Numbers.{IsLots, IsPrice}
use Rattle.gu_terms.specs.NumberText.{HasDigits, IsTakenApart, MeansLots, MeansPrice, fraction_digits, whole_digits}
use Rattle.gu_terms.proofs.NumberLemmas.{lots_mean, powers_of_ten}
use Rattle.gu_terms.proofs.WrittenMeanings.{parts_apart, whole_apart}

-- the digits of the parts, and the number of those after the point
pub digits_of_parts : {text whole fraction : List ℕ} → IsTakenApart text false whole fraction → HasDigits text (digits_value 10 (whole ++ fraction)) (length fraction)
digits_of_parts apart = record {
  is_number = apart.is_number;
  unsigned = sym apart.sign_is;
  digits_are = λ i. digits_value 10 (apart.whole_is i ++ apart.fraction_is i);
  places_are = λ i. length (apart.fraction_is i);
}

-- only digits
pub digits_alone : (text : List ℕ) → 1 ≤ length text → AllDigits 10 text → HasDigits text (digits_value 10 text) 0
digits_alone text some all =
    let apart : IsTakenApart text false text [] = subst (λ (t : List ℕ). IsTakenApart t false text []) (append-nil text) (whole_apart false text all some) in
    subst (λ (ds : List ℕ). HasDigits text (digits_value 10 ds) 0) (append-nil text) (digits_of_parts apart)

-- an element and those after it
from_place : (text : List ℕ) (place : ℕ) → place < length text → get_or text place 0 ∷ drop (place + 1) text ≡ drop place text
from_place text place within =
    let next : place + 1 ≡ suc place = omega arith in
    ap (λ (n : ℕ). get_or text place 0 ∷ drop n text) next ∙ sym (drop-cons text place 0 within)

-- digits, a point and the rest
pub digits_and_point : (text : List ℕ) (place : ℕ) → 1 ≤ place → place < length text → AllDigits 10 (take place text) → get_or text place 0 ≡ 46 → AllDigits 10 (drop (place + 1) text)
    → HasDigits text (digits_value 10 (take place text ++ drop (place + 1) text)) (length (drop (place + 1) text))
digits_and_point text place some within whole point fraction =
    let whole_text : take place text ++ (46 ∷ drop (place + 1) text) ≡ text =
    ap (λ (rest : List ℕ). take place text ++ rest) (ap (λ (b : ℕ). b ∷ drop (place + 1) text) (sym point) ∙ from_place text place within) ∙ take-append-drop place text in
    digits_of_parts (subst (λ (t : List ℕ). IsTakenApart t false (take place text) (drop (place + 1) text)) whole_text
    (parts_apart false (take place text) (drop (place + 1) text) whole fraction (omega (arith, length-take place text))))

empty_list : (xs : List ℕ) → length xs ≡ 0 → xs ≡ []
empty_list [] h = refl
empty_list (x ∷ xs) h = absurd (omega (arith, h))

-- the result of a constructor that returns a value if the number is in its range
pub in_range : {N : Type 0} (IsInRange : N → Type 0) (Q : N → Type 0) (made : Option N) (n : N) → IsSome made ↔ IsInRange n → IfSome made (λ m. m ≡ n) → (IsInRange n → Q n) → IfSome made Q
in_range IsInRange Q (Some m) n sound same within = subst Q (sym same) (within (sound.0 refl))
in_range IsInRange Q None n sound same within = tt

-- digits with none after the point mean this number of lots
pub lots_said : (text : List ℕ) (digits places : ℕ) → HasDigits text digits places → places ≡ 0 → IsLots digits → MeansLots text digits
lots_said text digits places h none sound =
    let nothing : fraction_digits text ≡ [] = empty_list (fraction_digits text) (sym h.places_are ∙ none) in
    let whole : digits ≡ digits_value 10 (whole_digits text) =
    h.digits_are ∙ ap (λ (ds : List ℕ). digits_value 10 (whole_digits text ++ ds)) nothing ∙ ap (λ (ds : List ℕ). digits_value 10 ds) (append-nil (whole_digits text)) in
    lots_mean text digits h.is_number h.unsigned whole (ap (λ (ds : List ℕ). digits_value 10 ds) nothing) sound

-- digits with up to six after the point mean this number of millionths
pub price_said : (text : List ℕ) (digits places : ℕ) → HasDigits text digits places → places ≤ 6 → IsPrice (pos (digits * 10 ^ (6 - places))) → MeansPrice text (pos (digits * 10 ^ (6 - places)))
price_said text digits places h few sound =
    let six : 6 - places + places ≡ 6 = omega arith in
    let million : 10 ^ (6 - places) * 10 ^ places ≡ 1000000 = sym (pow-add 10 (6 - places) places) ∙ ap (λ (n : ℕ). 10 ^ n) six in
    record {
      means = record {
        is_number = h.is_number;
        size = digits * 10 ^ (6 - places);
        counts =
            ap (λ (n : ℕ). n * 1000000) (sym h.digits_are)
            ∙ ap (λ (n : ℕ). digits * n) (sym million)
            ∙ sym (mul_assoc digits (10 ^ (6 - places)) (10 ^ places))
            ∙ ap (λ (n : ℕ). digits * 10 ^ (6 - places) * 10 ^ n) h.places_are;
        sign = sym (ap (λ (b : Bool). cond b (neg_ℤ (pos (digits * 10 ^ (6 - places)))) (pos (digits * 10 ^ (6 - places)))) h.unsigned);
      };
      sound = sound;
    }

-- there are few enough of them
pub few_millionths : (digits power zeros : ℕ) → digits < 1000000000000 → power ≡ 10 ^ zeros → zeros ≤ 6 → digits * power < 1000000000000000001
few_millionths digits power zeros few is small =
    let low = mul-le-mul_right {m = digits} {n = 1000000000000} power (omega arith) in
    omega (arith, low, is, powers_of_ten zeros 6 small)
