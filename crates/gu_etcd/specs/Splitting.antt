-- Texts in parts, with a byte of a kind between them.
use Rattle.std.specs.Prelude.{◌≢◌, ℕ, List, [], ◌∷◌}

-- no byte of the text is this one
abbrev pub Lacks : ℕ → List ℕ → Type 0
Lacks byte [] = Unit {0}
Lacks byte (other ∷ text) = (other ≢ byte) × Lacks byte text
