-- The lines of a text. (An LF ends each, and a CR before it is dropped; the last may lack its LF, as in std's `lines`.)
use Rattle.std.specs.Prelude.{ℕ, Bool, true, ◌&&◌, ◌==◌, nat_le, List, [], ◌∷◌, length}

-- the most bytes in a line
abbrev pub longest_line : ℕ
longest_line = 1024

-- a line says nothing: it is empty, or a comment of at most 1,024 bytes
abbrev pub is_silent : List ℕ → Bool
is_silent [] = true
is_silent (first ∷ rest) = first == 35 && nat_le (length (first ∷ rest)) longest_line
