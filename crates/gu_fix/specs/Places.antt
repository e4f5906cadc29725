-- Machinery: what is at a position of a stream, as it is read part by part. No other crate names this file.
use Rattle.std.specs.Prelude.{◌≡◌, ℕ, ◌+◌, ◌<◌, ◌≤◌, List, ◌∷◌, ◌++◌, length, take}
use Rattle.gu_fix.specs.WholeMessage.{IsLengthText, body_of, IsWhole, soh}
use Rattle.gu_fix.specs.Stream.{IsOpen, IsGarbled}
use Rattle.gu_fix.specs.declared.prefix.Meeting.{Meeting}
use Rattle.gu_fix.specs.declared.prefix.Meeting.TheVariants.{Begins, Within, Apart}
use Rattle.gu_fix.specs.declared.prefix.LengthText.{LengthText}
use Rattle.gu_fix.specs.declared.prefix.LengthText.TheVariants as length_text
use Rattle.gu_fix.specs.declared.prefix.Prefix.{Prefix}
use Rattle.gu_fix.specs.declared.prefix.Prefix.TheVariants as place

-- the result of comparing bytes with a text that they should begin with
abbrev pub Meets : Meeting → List ℕ → List ℕ → Type 0
Meets Begins bytes text = (rest : List ℕ) × (bytes ≡ text ++ rest)
Meets Within bytes text = (rest : List ℕ) × (0 < length rest) × (bytes ++ rest ≡ text)
Meets Apart bytes text = (more rest : List ℕ) → bytes ++ more ≡ text ++ rest → ⊥

-- a length that a message can have
pub record IsLength (digits : List ℕ) (n : ℕ) : Type 0 where
  pub text : IsLengthText digits n
  pub least : 4 ≤ n
  pub most : 21 + length digits + n ≤ 65536

-- the result of reading the length that bytes should begin with: this many digits with this value, digits that can be continued to such a
-- length, or neither
abbrev pub ReadsLength : LengthText → List ℕ → Type 0
ReadsLength (length_text.Read count n) bytes =
    (digits : List ℕ) × (rest : List ℕ) × (length digits ≡ count) × IsLength digits n × (bytes ≡ digits ++ soh ∷ rest)
ReadsLength length_text.Open bytes = (more : List ℕ) × (n : ℕ) × IsLength (bytes ++ more) n
ReadsLength length_text.Apart bytes =
    (digits more rest : List ℕ) (n : ℕ) → IsLength digits n → bytes ++ more ≡ digits ++ soh ∷ rest → ⊥

-- the result of comparing bytes with a body of n bytes that they should begin with
abbrev pub MeetsBody : Meeting → List ℕ → ℕ → Type 0
MeetsBody Begins bytes n = (inner : List ℕ) × (rest : List ℕ) × (length (body_of inner) ≡ n) × (bytes ≡ body_of inner ++ rest)
MeetsBody Within bytes n = (inner : List ℕ) × (more : List ℕ) × (length (body_of inner) ≡ n) × (bytes ++ more ≡ body_of inner)
MeetsBody Apart bytes n = (inner more rest : List ℕ) → length (body_of inner) ≡ n → bytes ++ more ≡ body_of inner ++ rest → ⊥

-- what is at a position of a stream
abbrev pub StandsAs : Prefix → List ℕ → Type 0
StandsAs (place.Whole n) bytes = (n ≤ length bytes) × IsWhole (take n bytes)
StandsAs place.Open bytes = IsOpen bytes
StandsAs place.Garbled bytes = IsGarbled bytes
