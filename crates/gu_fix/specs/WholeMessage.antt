-- A whole message: BeginString, BodyLength, the body starting with MsgType, and CheckSum (FIXT 1.1, Standard Header and Standard Trailer).
use Rattle.std.specs.Prelude.{◌≡◌, ℕ, ◌+◌, ◌/◌, ◌%◌, ◌≤◌, List, [], ◌∷◌, ◌++◌, length, sum, codes}
use Rattle.std.specs.Str.Parse.{AllDigits, digits_value}

-- the byte that ends each field
abbrev pub soh : ℕ
soh = 1

-- the start of each message: BeginString and the tag of BodyLength, `8=FIXT.1.1`, SOH, `9=`
unfoldable pub opening : List ℕ
opening = codes "8=FIXT.1.1" ++ soh ∷ codes "9="

-- the text of BodyLength: one to seven digits, leading zeros allowed, whose value is n
pub record IsLengthText (digits : List ℕ) (n : ℕ) : Type 0 where
  pub some : 1 ≤ length digits
  pub most : length digits ≤ 7
  pub all : AllDigits 10 digits
  pub value : digits_value 10 digits ≡ n

-- the tag of MsgType, `35=`
unfoldable pub type_tag : List ℕ
type_tag = codes "35="

-- a body: it begins with `35=` and ends with SOH
abbrev pub body_of : List ℕ → List ℕ
body_of inner = type_tag ++ inner ++ soh ∷ []

-- a number below 1,000 as three digits
abbrev pub three_digits : ℕ → List ℕ
three_digits n = (48 + n / 100) ∷ (48 + n / 10 % 10) ∷ (48 + n % 10) ∷ []

-- CheckSum: `10=`, three digits, and SOH
unfoldable pub trailer_of : ℕ → List ℕ
trailer_of n = codes "10=" ++ three_digits n ++ soh ∷ []

-- the CheckSum after these bytes: their sum, modulo 256
abbrev pub trailer_after : List ℕ → List ℕ
trailer_after before = trailer_of (sum before % 256)

-- everything in a message before its CheckSum
abbrev pub front_of : List ℕ → List ℕ → List ℕ
front_of digits body = opening ++ digits ++ soh ∷ body

-- a whole message: BodyLength counts the bytes of the body, and there are at most 65,536 bytes in all
pub record IsWhole (message : List ℕ) : Type 0 where
  pub digits : List ℕ
  pub inner : List ℕ
  pub counted : IsLengthText digits (length (body_of inner))
  pub spelled : message ≡ front_of digits (body_of inner) ++ trailer_after (front_of digits (body_of inner))
  pub most : length message ≤ 65536
