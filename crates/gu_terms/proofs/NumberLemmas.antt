-- The values of the parts of a number text.
use Rattle.std.proofs.Common.{length-append, length-take, get_or, take, drop, min, ◌-◌, ◌≡◌, ℕ, ℤ, pos, zero, suc, Option, Some, None, IsSome, IfSome, MatchOption, ◌↔◌, ◌+◌, ◌*◌, ◌^◌, ◌<◌, ◌≤◌, neg_ℤ, cond, List, [], ◌∷◌, ◌++◌, Bool, true, false, length, refl, sym, ap, subst, ◌∙◌, arith, inl, inr}
use Rattle.std.specs.Char.{digit_value}
use Rattle.std.specs.Str.Parse.{AllDigits, digits_value, digits_value_after}
use Rattle.std.proofs.lemmas.Int.Digits.{digits_value-lt}
use Rattle.std.proofs.lemmas.Bool.{cases_lt, le-leb}
use Rattle.std.proofs.lemmas.Float.{T_from_true}
use Rattle.std.proofs.Math.Dec.{lit≤}
use Rattle.std.proofs.lemmas.Nat.{pow-add}
use Rattle.std.proofs.lemmas.List.{take-append-drop, take_more, drop_all}
use Rattle.std.proofs.Math.Nat.{mul_assoc, mul_comm, add-mul, mul_right_comm, mul_left_comm, pow-succ', mul-le-mul_right, pow-le-pow_right, eq_of_mul-eq-mul_left}
use Rattle.gu_terms.specs.Numbers.{IsLots, IsPrice}
use Rattle.gu_terms.specs.NumberText.{has_minus, whole_digits, fraction_digits, IsNumberText, with_sign, CountsParts, CountsMillionths, MeansLots, MeansPrice, IsTakenApart}

pub after-append : (n : ℕ) (a b : List ℕ) → digits_value_after 10 n (a ++ b) ≡ digits_value_after 10 (digits_value_after 10 n a) b
after-append n [] b = refl
after-append n (c ∷ cs) b = after-append (n * 10 + digit_value c) cs b

-- one more digit
pub after-more : (n : ℕ) (ds : List ℕ) (i : ℕ) → i < length ds → digits_value_after 10 n (take (i + 1) ds) ≡ digits_value_after 10 n (take i ds) * 10 + digit_value (get_or ds i 0)
after-more n ds i within = ap (digits_value_after 10 n) (take_more ds i 0 within) ∙ after-append n (take i ds) (get_or ds i 0 ∷ [])

-- a number below a power of ten is, with one more digit, below the next power
pub room_for_digit : (number digit count next : ℕ) → next ≡ count + 1 → number < 10 ^ count → digit < 10 → 10 * number + digit < 10 ^ next
room_for_digit number digit count next is few small =
    let more : next ≡ suc count = omega arith in
    omega (arith, few, small, pow-succ' 10 count, ap (λ (k : ℕ). 10 ^ k) more)

-- a higher power of ten is no smaller
pub powers_of_ten : (low high : ℕ) → low ≤ high → 10 ^ low ≤ 10 ^ high
powers_of_ten low high le = pow-le-pow_right {n = 10} (omega arith) le

after-value : (n : ℕ) (ds : List ℕ) → digits_value_after 10 n ds ≡ n * 10 ^ length ds + digits_value 10 ds
after-value n [] = omega arith
after-value n (c ∷ cs) =
    let v = digit_value c in
    let p = 10 ^ length cs in
    let long = after-value (n * 10 + v) cs in
    let short = after-value (0 * 10 + v) cs in
    omega (arith, long, short, add-mul (n * 10) v p, mul_assoc n 10 p, ap (λ (q : ℕ). n * q) (pow-succ' 10 (length cs)))

-- the value of digits followed by others
pub digits_value-append : (a b : List ℕ) → digits_value 10 (a ++ b) ≡ digits_value 10 a * 10 ^ length b + digits_value 10 b
digits_value-append a b = after-append 0 a b ∙ after-value (digits_value 10 a) b

-- a power of ten isn't 0
pub ten_to_positive : (k : ℕ) → 0 < 10 ^ k
ten_to_positive zero = omega arith
ten_to_positive (suc k) = omega (arith, ten_to_positive k, pow-succ' 10 k)

-- a multiple plus a smaller remainder is a multiple only if the two are equal and the remainder is 0
multiples : (a b r p : ℕ) → r < p → a * p + r ≡ b * p → (a ≡ b) × (r ≡ 0)
multiples a b r p small e = elim (cases_lt a b) [
  | inl lt ↦ let more = mul-le-mul_right {m = suc a} {n = b} p (omega arith) in absurd (omega (arith, more, add-mul a 1 p))
  | inr ge ↦ elim (cases_lt b a) [
    | inl lt ↦ let more = mul-le-mul_right {m = suc b} {n = a} p (omega arith) in absurd (omega (arith, more, add-mul b 1 p))
    | inr le ↦ let same : a ≡ b = omega arith in (same, omega (arith, ap (λ (n : ℕ). n * p) same))
  ]
]

-- a text for lots has no minus, its lots are its whole digits, and nothing but zeros is after the point
pub lots_meant : (text : List ℕ) (n : ℕ) → MeansLots text n → (has_minus text ≡ false) × (digits_value 10 (whole_digits text) ≡ n) × (digits_value 10 (fraction_digits text) ≡ 0)
lots_meant text n h =
    let unsigned = unsigned_lots (has_minus text) refl in
    let size_is : h.means.size ≡ n = same_size (has_minus text) unsigned refl in
    let whole = whole_digits text in
    let fraction = fraction_digits text in
    let p = 10 ^ length fraction in
    let small = digits_value-lt 10 fraction h.means.is_number.fraction in
    let sum : digits_value 10 whole * p + digits_value 10 fraction ≡ n * p =
    omega (arith, digits_value-append whole fraction, h.means.counts, ap (λ (k : ℕ). k * p) size_is) in
    let parts = multiples (digits_value 10 whole) n (digits_value 10 fraction) p small sum in
    (unsigned, parts.0, parts.1)
  where
    unsigned_lots : (b : Bool) → has_minus text ≡ b → has_minus text ≡ false
    unsigned_lots false e = e
    unsigned_lots true e = absurd (no_minus h.means.size (h.means.sign ∙ ap (λ (b : Bool). cond b (neg_ℤ (pos h.means.size)) (pos h.means.size)) e) h.sound.some)
      where
        no_minus : (size : ℕ) → pos n ≡ neg_ℤ (pos size) → 1 ≤ n → ⊥
        no_minus zero e some = let zero_is : n ≡ 0 = cc in omega arith
        no_minus (suc size) e some = cc

    same_size : (b : Bool) → has_minus text ≡ false → has_minus text ≡ b → h.means.size ≡ n
    same_size b e is = let sign : pos n ≡ pos h.means.size = h.means.sign ∙ ap (λ (b : Bool). cond b (neg_ℤ (pos h.means.size)) (pos h.means.size)) e in cc

-- the same for the text's parts
pub lots_of_parts : {text : List ℕ} {is_negative : Bool} {whole fraction : List ℕ} {n : ℕ} → IsTakenApart text is_negative whole fraction → MeansLots text n
    → (is_negative ≡ false) × (digits_value 10 whole ≡ n) × (digits_value 10 fraction ≡ 0)
lots_of_parts {text} {n = n} apart h =
    let meant = lots_meant text n h in
    (apart.sign_is ∙ meant.0, ap (λ ds. digits_value 10 ds) apart.whole_is ∙ meant.1, ap (λ ds. digits_value 10 ds) apart.fraction_is ∙ meant.2)

-- such a text means these lots
pub lots_mean : (text : List ℕ) (n : ℕ) → IsNumberText text → has_minus text ≡ false → n ≡ digits_value 10 (whole_digits text) → digits_value 10 (fraction_digits text) ≡ 0 → IsLots n → MeansLots text n
lots_mean text n is_number unsigned whole nothing sound = record {
  means = record {
    is_number = is_number;
    size = n;
    counts = omega (arith, digits_value-append (whole_digits text) (fraction_digits text), nothing, ap (λ (k : ℕ). k * 10 ^ length (fraction_digits text)) whole);
    sign = sym (ap (λ (b : Bool). cond b (neg_ℤ (pos n)) (pos n)) unsigned);
  };
  sound = sound;
}

-- parts without a minus or a fraction mean the number in their whole digits
pub parts_mean_lots : {text : List ℕ} {is_negative : Bool} {whole fraction : List ℕ} {n : ℕ} → IsTakenApart text is_negative whole fraction → is_negative ≡ false → n ≡ digits_value 10 whole → digits_value 10 fraction ≡ 0 → IsLots n → MeansLots text n
parts_mean_lots {text} {n = n} apart unsigned is nothing sound =
    lots_mean text n apart.is_number (sym apart.sign_is ∙ unsigned) (is ∙ ap (λ ds. digits_value 10 ds) apart.whole_is) (sym (ap (λ ds. digits_value 10 ds) apart.fraction_is) ∙ nothing) sound

-- the result of a constructor that returns a value if the number is in its range
pub range_tells : (IsInRange : ℕ → Type 0) {P : Type 0} (Q : ℕ → Type 0) (made : Option ℕ) (n : ℕ) → IsSome made ↔ IsInRange n → IfSome made (λ m. m ≡ n)
    → ((IsInRange n → ⊥) → P) → (IsInRange n → Q n) → MatchOption made P Q
range_tells IsInRange Q (Some m) n sound same out within = subst Q (sym same) (within (sound.0 refl))
range_tells IsInRange Q None n sound same out within = out (λ h. let none = sound.1 h in cc)

-- a price's size in millionths is that of its whole digits plus that of its fraction
price_size : (text : List ℕ) (size millionths : ℕ) → CountsParts text 1000000 size → digits_value 10 (fraction_digits text) * 1000000 ≡ millionths * 10 ^ length (fraction_digits text)
    → size ≡ digits_value 10 (whole_digits text) * 1000000 + millionths
price_size text size millionths counts fraction_is =
    let w = digits_value 10 (whole_digits text) in
    let f = digits_value 10 (fraction_digits text) in
    let p = 10 ^ length (fraction_digits text) in
    let all : (w * 1000000 + millionths) * p ≡ size * p =
    omega (arith, counts, fraction_is, ap (λ (n : ℕ). n * 1000000) (digits_value-append (whole_digits text) (fraction_digits text)), add-mul (w * p) f 1000000, add-mul (w * 1000000) millionths p, mul_assoc w 1000000 p, mul_assoc w p 1000000, ap (λ (n : ℕ). w * n) (mul_comm 1000000 p)) in
    sym (eq_of_mul-eq-mul_left p (ten_to_positive (length (fraction_digits text))) _ _ (mul_comm p _ ∙ all ∙ mul_comm size p))

-- these millionths are counted
pub price_counts : (text : List ℕ) (millionths : ℕ) → digits_value 10 (fraction_digits text) * 1000000 ≡ millionths * 10 ^ length (fraction_digits text)
    → CountsParts text 1000000 (digits_value 10 (whole_digits text) * 1000000 + millionths)
price_counts text millionths fraction_is =
    let w = digits_value 10 (whole_digits text) in
    let f = digits_value 10 (fraction_digits text) in
    let p = 10 ^ length (fraction_digits text) in
    omega (arith, fraction_is, ap (λ (n : ℕ). n * 1000000) (digits_value-append (whole_digits text) (fraction_digits text)), add-mul (w * p) f 1000000, add-mul (w * 1000000) millionths p, mul_assoc w 1000000 p, mul_assoc w p 1000000, ap (λ (n : ℕ). w * n) (mul_comm 1000000 p))

-- a price has a whole number of millionths after its point
pub fraction_of_price : (text : List ℕ) (size : ℕ) → CountsParts text 1000000 size → (millionths : ℕ) × (digits_value 10 (fraction_digits text) * 1000000 ≡ millionths * 10 ^ length (fraction_digits text))
fraction_of_price text size counts =
    let w = digits_value 10 (whole_digits text) in
    let f = digits_value 10 (fraction_digits text) in
    let p = 10 ^ length (fraction_digits text) in
    let sum : w * 1000000 * p + f * 1000000 ≡ size * p =
    omega (arith, counts, ap (λ (n : ℕ). n * 1000000) (digits_value-append (whole_digits text) (fraction_digits text)), add-mul (w * p) f 1000000, mul_assoc w 1000000 p, mul_assoc w p 1000000, ap (λ (n : ℕ). w * n) (mul_comm 1000000 p)) in
    elim (cases_lt size (w * 1000000)) [
      | inl lt ↦ let more = mul-le-mul_right {m = suc size} {n = w * 1000000} p (omega arith) in absurd (omega (arith, more, add-mul size 1 p, ten_to_positive (length (fraction_digits text)), sum))
      | inr le ↦ (
        size - w * 1000000,
        let whole : size ≡ w * 1000000 + (size - w * 1000000) = omega arith in
            omega (arith, sum, ap (λ (n : ℕ). n * p) whole, add-mul (w * 1000000) (size - w * 1000000) p),
      )
    ]

-- the millionths after the point are less than 1,000,000
pub millionths_are_few : (fraction : List ℕ) (millionths : ℕ) → AllDigits 10 fraction → digits_value 10 fraction * 1000000 ≡ millionths * 10 ^ length fraction → millionths < 1000000
millionths_are_few fraction millionths all is =
    let p = 10 ^ length fraction in
    let small = digits_value-lt 10 fraction all in
    elim (cases_lt millionths 1000000) [
      | inl lt ↦ lt
      | inr ge ↦ let more = mul-le-mul_right {m = 1000000} {n = millionths} p ge in absurd (omega (arith, more, small, is))
    ]

-- up to six digits after the point, followed by zeros, count millionths
pub millionths_of : (front back : List ℕ) (rest : ℕ) → length front + rest ≡ 6 → digits_value 10 back ≡ 0
    → digits_value 10 (front ++ back) * 1000000 ≡ (digits_value 10 front * 10 ^ rest) * 10 ^ length (front ++ back)
millionths_of front back rest six zeros =
    let v = digits_value 10 front in
    let q = 10 ^ length back in
    let digits : rest + length front ≡ 6 = omega arith in
    let million : 10 ^ rest * 10 ^ length front ≡ 1000000 = sym (pow-add 10 rest (length front)) ∙ ap (λ (n : ℕ). 10 ^ n) digits in
    let left : digits_value 10 (front ++ back) ≡ v * q = omega (arith, digits_value-append front back, zeros) in
    let long : 10 ^ length (front ++ back) ≡ 10 ^ length front * q = ap (λ (n : ℕ). 10 ^ n) (length-append front back) ∙ pow-add 10 (length front) (length back) in
    ap (λ (n : ℕ). n * 1000000) left
    ∙ mul_right_comm v q 1000000
    ∙ ap (λ (n : ℕ). v * n * q) (sym million)
    ∙ ap (λ (n : ℕ). n * q) (sym (mul_assoc v (10 ^ rest) (10 ^ length front)))
    ∙ mul_assoc (v * 10 ^ rest) (10 ^ length front) q
    ∙ ap (λ (n : ℕ). v * 10 ^ rest * n) (sym long)

-- if a digit after the sixth isn't 0, there is no whole number of millionths
pub no_millionths : (front back : List ℕ) (millionths : ℕ) → length front ≡ 6 → AllDigits 10 back → (digits_value 10 back ≡ 0 → ⊥) → digits_value 10 (front ++ back) * 1000000 ≡ millionths * 10 ^ length (front ++ back) → ⊥
no_millionths front back millionths six all some is =
    let v = digits_value 10 front in
    let r = digits_value 10 back in
    let q = 10 ^ length back in
    let long : 10 ^ length (front ++ back) ≡ 1000000 * q = ap (λ (n : ℕ). 10 ^ n) (length-append front back) ∙ pow-add 10 (length front) (length back) ∙ ap (λ (n : ℕ). 10 ^ n * q) six in
    let scaled : 1000000 * (v * q + r) ≡ 1000000 * (millionths * q) =
    mul_comm 1000000 (v * q + r) ∙ ap (λ (n : ℕ). n * 1000000) (sym (digits_value-append front back)) ∙ is ∙ ap (λ (n : ℕ). millionths * n) long ∙ mul_left_comm millionths 1000000 q in
    some (multiples v millionths r q (digits_value-lt 10 back all) (eq_of_mul-eq-mul_left 1000000 (omega arith) _ _ scaled)).1

pub digits_from : (n : ℕ) (ds : List ℕ) → AllDigits 10 ds → AllDigits 10 (drop n ds)
digits_from zero ds h = h
digits_from (suc n) [] h = h
digits_from (suc n) (d ∷ ds) h = digits_from n ds h.1

-- if the digits after the first six are 0, the first six count the millionths
pub front_counts : (fraction : List ℕ) (count rest : ℕ) → count ≡ min (length fraction) 6 → rest ≡ 6 - count → digits_value 10 (drop count fraction) ≡ 0
    → CountsMillionths fraction (digits_value 10 (take count fraction) * 10 ^ rest)
front_counts fraction count rest is rest_is zeros =
    let long : length (take count fraction) + rest ≡ 6 =
    elim (cases_lt (length fraction) 6) [ inl lt ↦ omega (arith, length-take count fraction) | inr ge ↦ omega (arith, length-take count fraction) ] in
    let counts = millionths_of (take count fraction) (drop count fraction) rest long zeros in
    subst (λ (f : List ℕ). digits_value 10 f * 1000000 ≡ (digits_value 10 (take count fraction) * 10 ^ rest) * 10 ^ length f) (take-append-drop count fraction) counts

-- otherwise no number of millionths is counted
pub front_counts_all : (fraction : List ℕ) (count n : ℕ) → count ≡ min (length fraction) 6 → AllDigits 10 fraction → (digits_value 10 (drop count fraction) ≡ 0 → ⊥) → CountsMillionths fraction n → ⊥
front_counts_all fraction count n is all some counts =
    elim (cases_lt (length fraction) 6) [
      | inl lt ↦ let short : length fraction ≤ count = omega arith in some (ap (λ (f : List ℕ). digits_value 10 f) (drop_all count fraction short))
      | inr ge ↦
          let six : length (take count fraction) ≡ 6 = omega (arith, length-take count fraction) in
          let whole = sym (take-append-drop count fraction) in
          no_millionths (take count fraction) (drop count fraction) n six (digits_from count fraction all) some (subst (λ (f : List ℕ). digits_value 10 f * 1000000 ≡ n * 10 ^ length f) whole counts)
    ]

pub digits_until : (n : ℕ) (ds : List ℕ) → AllDigits 10 ds → AllDigits 10 (take n ds)
digits_until zero ds h = tt
digits_until (suc n) [] h = tt
digits_until (suc n) (d ∷ ds) h = (h.0, digits_until n ds h.1)

-- this many digits are below that power of ten
pub few_digits : (count : ℕ) (ds : List ℕ) → AllDigits 10 ds → length ds ≤ count → digits_value 10 ds < 10 ^ count
few_digits count ds all few =
    let bound = digits_value-lt 10 ds all in
    let power : 10 ^ length ds ≤ 10 ^ count = pow-le-pow_right {n = 10} (omega arith) few in
    omega arith

-- at most six digits are below 1,000,000
pub six_digits : (count : ℕ) (fraction : List ℕ) → AllDigits 10 fraction → count ≤ 6 → digits_value 10 (take count fraction) < 1000000
six_digits count fraction all few = few_digits 6 (take count fraction) (digits_until count fraction all) (omega (arith, length-take count fraction))

-- a price with this size is in its range, with either sign
price_is_sound : (is_negative : Bool) (size : ℕ) → size ≤ 999999999999999 → IsPrice (cond is_negative (neg_ℤ (pos size)) (pos size))
price_is_sound false size small = record { least = record { le = tt }; most = record { le = T_from_true _ (le-leb size 999999999999999 small) } }
price_is_sound true zero small = record { least = record { le = tt }; most = record { le = tt } }
price_is_sound true (suc size) small = record { least = record { le = T_from_true _ (le-leb size 999999999999998 (omega arith)) }; most = record { le = tt } }

-- no price has a larger size
price_is_small : (is_negative : Bool) (size : ℕ) → IsPrice (cond is_negative (neg_ℤ (pos size)) (pos size)) → size ≤ 999999999999999
price_is_small false size h = lit≤ h.most.le
price_is_small true zero h = omega arith
price_is_small true (suc size) h = let below : size ≤ 999999999999998 = lit≤ h.least.le in omega arith

-- the fraction of parts that mean a price
pub millionths_of_parts : {text : List ℕ} {is_negative : Bool} {whole fraction : List ℕ} {z : ℤ} → IsTakenApart text is_negative whole fraction → MeansPrice text z → (millionths : ℕ) × CountsMillionths fraction millionths
millionths_of_parts {text} {fraction = fraction} apart h =
    let found = fraction_of_price text h.means.size h.means.counts in
    (found.0, subst (λ (f : List ℕ). CountsMillionths f found.0) (sym apart.fraction_is) found.1)

-- the whole part of parts that mean a price
pub units_of_parts : {text : List ℕ} {is_negative : Bool} {whole fraction : List ℕ} {z : ℤ} → IsTakenApart text is_negative whole fraction → MeansPrice text z → digits_value 10 whole ≤ 999999999
units_of_parts {text} {whole = whole} {z = z} apart h =
    let found = fraction_of_price text h.means.size h.means.counts in
    let size_is = price_size text h.means.size found.0 h.means.counts found.1 in
    let small = price_is_small (has_minus text) h.means.size (subst IsPrice h.means.sign h.sound) in
    omega (arith, ap (λ (ds : List ℕ). digits_value 10 ds) apart.whole_is)

-- parts mean the price that they count
pub parts_mean_price : {text : List ℕ} {is_negative : Bool} {whole fraction : List ℕ} {z : ℤ} (units millionths : ℕ) → IsTakenApart text is_negative whole fraction
    → units ≡ digits_value 10 whole → units ≤ 999999999 → millionths < 1000000 → CountsMillionths fraction millionths
    → z ≡ cond is_negative (neg_ℤ (pos (units * 1000000 + millionths))) (pos (units * 1000000 + millionths)) → MeansPrice text z
parts_mean_price {text} {is_negative} {whole} {fraction} {z} units millionths apart units_are few small counts sign =
    let size = units * 1000000 + millionths in
    let same : size ≡ digits_value 10 (whole_digits text) * 1000000 + millionths = omega (arith, ap (λ (ds : List ℕ). digits_value 10 ds) apart.whole_is) in
    let counted = price_counts text millionths (subst (λ (f : List ℕ). CountsMillionths f millionths) apart.fraction_is counts) in
    let signed : z ≡ with_sign text size = sign ∙ ap (λ (b : Bool). cond b (neg_ℤ (pos size)) (pos size)) apart.sign_is in
    record {
      means = record { is_number = apart.is_number; size = size; counts = subst (λ (n : ℕ). CountsParts text 1000000 n) (sym same) counted; sign = signed };
      sound = subst IsPrice (sym signed) (price_is_sound (has_minus text) size (omega arith));
    }
