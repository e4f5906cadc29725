-- The indexes of a list at which a test passes.
use Rattle.std.specs.Prelude.{ℕ, suc, Bool, List, [], ◌∷◌, if◌then◌else◌}

-- the indexes at which a list passes a test, counted from this number
abbrev pub places_from : {X : Type 0} → (X → Bool) → ℕ → List X → List ℕ
places_from test from [] = []
places_from test from (x ∷ xs) = if test x then from ∷ places_from test (suc from) xs else places_from test (suc from) xs

-- the indexes at which a list passes a test
abbrev pub places_where : {X : Type 0} → (X → Bool) → List X → List ℕ
places_where test xs = places_from test 0 xs
