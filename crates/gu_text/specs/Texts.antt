-- Lines made of words.
use Rattle.std.specs.Prelude.{ℕ, List, [], ◌∷◌, ◌++◌}

-- a word followed by a space
abbrev pub word : List ℕ → List ℕ
word bytes = bytes ++ 32 ∷ []

-- a line's last word followed by LF
abbrev pub last_word : List ℕ → List ℕ
last_word bytes = bytes ++ 10 ∷ []

-- words as a line: separated by single spaces, with LF at the end
abbrev pub line_of : List (List ℕ) → List ℕ
line_of [] = 10 ∷ []
line_of (last ∷ []) = last_word last
line_of (first ∷ next ∷ others) = word first ++ line_of (next ∷ others)
