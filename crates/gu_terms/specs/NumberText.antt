-- Lots and prices as they are written.
use Rattle.std.specs.Prelude.{◌≡◌, ℕ, ℤ, pos, neg_ℤ, ◌+◌, ◌*◌, ◌^◌, ◌≤◌, ◌==◌, ◌++◌, Bool, false, List, [], ◌∷◌, length, if◌then◌else◌}
use Rattle.std.specs.List.{before_first, after_first}
use Rattle.std.specs.Str.Parse.{AllDigits, digits_value}
use Rattle.gu_terms.specs.Numbers.{IsLots, IsPrice}

-- the text begins with `-`
abbrev pub has_minus : List ℕ → Bool
has_minus [] = false
has_minus (b ∷ bs) = b == 45

-- the text without a leading `-`
abbrev pub unsigned_text : List ℕ → List ℕ
unsigned_text [] = []
unsigned_text (b ∷ bs) = if b == 45 then bs else b ∷ bs

-- the digits before the point, or all of them if there is no point
abbrev pub whole_digits : List ℕ → List ℕ
whole_digits text = before_first (λ b. b == 46) (unsigned_text text)

-- the digits after the point, or none if there is no point
abbrev pub fraction_digits : List ℕ → List ℕ
fraction_digits text = after_first (λ b. b == 46) (unsigned_text text)

-- an optional `-`, digits and an optional point, with at least one digit, and nothing else
pub record IsNumberText (text : List ℕ) : Type 0 where
  pub whole : AllDigits 10 (whole_digits text)
  pub fraction : AllDigits 10 (fraction_digits text)
  pub some : 1 ≤ length (whole_digits text) + length (fraction_digits text)

-- this number, negative if the text begins with `-`
abbrev pub with_sign : List ℕ → ℕ → ℤ
with_sign text n = if has_minus text then neg_ℤ (pos n) else pos n

-- apart from its sign, the text's value is `n` divided by `parts`
abbrev pub CountsParts : List ℕ → ℕ → ℕ → Type 0
CountsParts text parts n = digits_value 10 (whole_digits text ++ fraction_digits text) * parts ≡ n * 10 ^ length (fraction_digits text)

-- the digits after a point are this number of millionths
abbrev pub CountsMillionths : List ℕ → ℕ → Type 0
CountsMillionths fraction n = digits_value 10 fraction * 1000000 ≡ n * 10 ^ length fraction

-- the text is a number whose value is `z` divided by `parts`
pub record Means (text : List ℕ) (parts : ℕ) (z : ℤ) : Type 0 where
  pub is_number : IsNumberText text
  pub size : ℕ
  pub counts : CountsParts text parts size
  pub sign : z ≡ with_sign text size

-- the text is this number of lots
pub record MeansLots (text : List ℕ) (n : ℕ) : Type 0 where
  pub means : Means text 1 (pos n)
  pub sound : IsLots n

-- the text is this price in millionths
pub record MeansPrice (text : List ℕ) (z : ℤ) : Type 0 where
  pub means : Means text 1000000 z
  pub sound : IsPrice z

-- a number text consists of this sign and the digits on both sides of the point
pub record IsTakenApart (text : List ℕ) (is_negative : Bool) (whole fraction : List ℕ) : Type 0 where
  pub is_number : IsNumberText text
  pub sign_is : is_negative ≡ has_minus text
  pub whole_is : whole ≡ whole_digits text
  pub fraction_is : fraction ≡ fraction_digits text

-- an unsigned number text has these digits, read as one number, with this many of them after its point
pub record HasDigits (text : List ℕ) (digits places : ℕ) : Type 0 where
  pub is_number : IsNumberText text
  pub unsigned : has_minus text ≡ false
  pub digits_are : digits ≡ digits_value 10 (whole_digits text ++ fraction_digits text)
  pub places_are : places ≡ length (fraction_digits text)
