-- The lines of a text, one after another.
use Rattle.std.proofs.Common.{◌≡◌, ◌≢◌, ◌<◌, ◌∷◌, [], ◌==◌, ℕ, List, length, refl, arith}
use Rattle.std.proofs.lemmas.Bool.{ne_eqb, cond-false}
use Rattle.std.specs.Str.Lines.{lines_of_parts, strip_carriage_return}

-- the first of some parts is a line without its CR
pub first_of_parts : (part : List ℕ) (parts : List (List ℕ)) → 0 < length parts → lines_of_parts (part ∷ parts) ≡ strip_carriage_return part ∷ lines_of_parts parts
first_of_parts part [] h = absurd (omega (arith, h))
first_of_parts part (next ∷ parts) h = refl

-- the last part is a line, if it isn't empty
pub last_part : (part : List ℕ) → part ≢ [] → lines_of_parts (part ∷ []) ≡ part ∷ []
last_part [] h = absurd (h refl)
last_part (b ∷ part) h = cond-false (length (b ∷ part) == 0) [] ((b ∷ part) ∷ []) (ne_eqb (length (b ∷ part)) 0 (λ e. absurd (omega arith)))
