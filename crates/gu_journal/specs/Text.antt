-- The text of a log, and what is found of it on a device.
use Rattle.std.specs.Prelude.{◌≡◌, ◌≢◌, ℕ, ◌+◌, ◌-◌, ◌≤◌, Bool, false, ◌||◌, ◌&&◌, List, [], ◌∷◌, length, Option, Some, None, if◌then◌else◌, ◌==◌, nat_le}
use Rattle.gu_journal.specs.declared.sink.TheConstants.{MAX_BATCH}

-- no byte is 0
abbrev pub HasNoZero : List ℕ → Type 0
HasNoZero [] = Unit {0}
HasNoZero (byte ∷ rest) = (byte ≢ 0) × HasNoZero rest

-- the bytes before the first 0
abbrev pub before_zero : List ℕ → List ℕ
before_zero [] = []
before_zero (byte ∷ rest) = if byte == 0 then [] else byte ∷ before_zero rest

-- a line ends in the text; a line ends with byte 10
abbrev pub ends_line : List ℕ → Bool
ends_line [] = false
ends_line (byte ∷ rest) = byte == 10 || ends_line rest

-- the whole lines of the text
abbrev pub whole_lines : List ℕ → List ℕ
whole_lines [] = []
whole_lines (byte ∷ rest) = if ends_line (byte ∷ rest) then byte ∷ whole_lines rest else []

-- the text is empty, or its last byte ends a line
abbrev pub IsWholeLines : List ℕ → Type 0
IsWholeLines text = whole_lines text ≡ text

-- a batch that may be appended: whole lines, without a 0, and no more bytes than the maximum
pub record IsBatch (text : List ℕ) : Type 0 where
  pub lines : IsWholeLines text
  pub no_zero : HasNoZero text
  pub short : length text ≤ MAX_BATCH

-- the text of a file: the whole lines before its first 0
abbrev pub text_of : List ℕ → List ℕ
text_of file = whole_lines (before_zero file)

-- the length of a file without its trailing zeros
abbrev pub used_length : List ℕ → ℕ
used_length [] = 0
used_length (byte ∷ rest) = if byte == 0 && used_length rest == 0 then 0 else used_length rest + 1

-- the number of bytes after the text, without trailing zeros
abbrev pub torn_length : List ℕ → ℕ
torn_length file = used_length file - length (text_of file)

-- the text found on a device; none if there is more after it than one batch can leave
abbrev pub found : List ℕ → Option (List ℕ)
found file = if nat_le (torn_length file) MAX_BATCH then Some (text_of file) else None
