-- Machinery: short texts as stored, in an array padded with zeros.
use Rattle.std.specs.Prelude.{◌≡◌, ℕ, ◌-◌, ◌≤◌, ◌++◌, List, length, take, drop, replicate}
use Rattle.std.proofs.Common.{◌∙◌, ap, arith, length-take}
use Rattle.std.proofs.lemmas.List.{take-append-drop}
use Rattle.gu_terms.specs.declared.padded.Padded.TheInside.{Inside}

-- the array has `size` bytes: `len` bytes of text, then zeros
pub record IsPadded (size : ℕ) (array : List ℕ) (len : ℕ) : Type 0 where
  pub size_is : length array ≡ size
  pub within : len ≤ size
  pub zeros : drop len array ≡ replicate (size - len) 0

-- a text padded with zeros
abbrev pub padded : ℕ → List ℕ → List ℕ
padded size text = text ++ replicate (size - length text) 0

-- a text as stored
abbrev pub kept : (size : ℕ) → List ℕ → Inside size
kept size text = record { bytes = padded size text; len = length text }

-- the text has the length stored with it
pub length-text : (size : ℕ) (array : List ℕ) (len : ℕ) → IsPadded size array len → length (take len array) ≡ len
length-text size array len h = omega (arith, length-take len array, h.size_is, h.within)

-- the text determines the array
pub padded-text : (size : ℕ) (array : List ℕ) (len : ℕ) → IsPadded size array len → padded size (take len array) ≡ array
padded-text size array len h = rw (length-text size array len h) (rw (← h.zeros) (take-append-drop len array))

-- the text determines the stored form
pub kept-view : (size : ℕ) (p : Inside size) → IsPadded size p.bytes p.len → kept size (take p.len p.bytes) ≡ p
kept-view size p h =
    ap (λ (bytes : List ℕ). let it : Inside size = record { bytes = bytes; len = length (take p.len p.bytes) } in it)
    (padded-text size p.bytes p.len h)
    ∙ ap (λ (len : ℕ). let it : Inside size = record { bytes = p.bytes; len = len } in it) (length-text size p.bytes p.len h)
