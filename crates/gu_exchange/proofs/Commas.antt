-- The texts between commas.
use Rattle.std.proofs.Common.{◌≡◌, ◌≢◌, ℕ, List, [], ◌∷◌, ◌++◌, Bool, true, false, Err, IsErrOf, refl, sym, ◌∙◌, ap, subst, if◌then◌else◌, ◌==◌}
use Rattle.std.specs.Bool.{Decides}
use Rattle.std.specs.List.{AllByRecursion}
use Rattle.std.proofs.lemmas.Bool.Decides.{Decides-eqb}
use Rattle.gu_etcd.specs.Splitting.{Lacks}
use Rattle.gu_exchange.specs.Addresses.{between_commas, onto_first}

chosen : (A : Type 0) (x y : A) (b : Bool) (P : Type 0) → Decides b P → ¬ P → (if b then x else y) ≡ y
chosen A x y true P decides other = absurd (other (decides.0 refl))
chosen A x y false P decides other = refl

-- a byte that is no comma goes onto the first text
goes_onto : (byte : ℕ) (text : List ℕ) → byte ≢ 44 → between_commas (byte ∷ text) ≡ onto_first byte (between_commas text)
goes_onto byte text other = chosen (List (List ℕ)) ([] ∷ between_commas text) (onto_first byte (between_commas text)) _ (byte ≡ 44) (Decides-eqb byte 44) other

-- what has no comma is one text
pub one_text : (first : List ℕ) → Lacks 44 first → between_commas first ≡ first ∷ []
one_text [] lacks = refl
one_text (byte ∷ first) lacks = goes_onto byte first lacks.0 ∙ ap (λ (l : List (List ℕ)). onto_first byte l) (one_text first lacks.1)

-- the text before the first comma, and then those of what is after it
pub first_text : (first rest : List ℕ) → Lacks 44 first → between_commas (first ++ 44 ∷ rest) ≡ first ∷ between_commas rest
first_text [] rest lacks = refl
first_text (byte ∷ first) rest lacks = goes_onto byte (first ++ 44 ∷ rest) lacks.0 ∙ ap (λ (l : List (List ℕ)). onto_first byte l) (first_text first rest lacks.1)

-- an error is the same, whatever else might have been returned
pub same_error : (T U E : Type 0) (x y : E) → IsErrOf {T = T} {E = E} (Err x) y → IsErrOf {T = U} {E = E} (Err x) y
same_error T U E x y of = let same : x ≡ y = cc in cc

-- of all, one in the middle
pub all_middle : (P : List ℕ → Type 0) (before after : List (List ℕ)) (one : List ℕ) → AllByRecursion P (before ++ one ∷ after) → P one
all_middle P [] after one all = all.0
all_middle P (other ∷ before) after one all = all_middle P before after one all.1

-- and one more
pub all_push : (P : List ℕ → Type 0) (before : List (List ℕ)) (one : List ℕ) → AllByRecursion P before → P one → AllByRecursion P (before ++ one ∷ [])
all_push P [] one all is = (is, tt)
all_push P (other ∷ before) one all is = (all.0, all_push P before one all.1 is)
