-- Texts in two parts, with a byte between them.
use Rattle.std.proofs.Common.{◌≡◌, ◌≢◌, ℕ, zero, suc, ◌<◌, List, [], ◌∷◌, ◌++◌, take, get_or, true, refl, subst, arith}
use Rattle.std.specs.List.{AllPass}
use Rattle.std.proofs.lemmas.List.Elements.{All-head, All-tail}
use Rattle.gu_etcd.specs.Keys.{is_name_byte}
use Rattle.gu_etcd.specs.Splitting.{Lacks}

-- what was passed lacks the byte
pub lacks_front : (byte : ℕ) (text : List ℕ) (i : ℕ) → ((k : ℕ) → k < i → get_or text k 0 ≢ byte) → Lacks byte (take i text)
lacks_front byte text zero passed = tt
lacks_front byte [] (suc i) passed = tt
lacks_front byte (other ∷ text) (suc i) passed = (passed 0 (omega arith), lacks_front byte text i (λ k below. passed (suc k) (omega arith)))

-- a text with the byte doesn't lack it
pub has_it : (byte : ℕ) (first rest : List ℕ) → Lacks byte (first ++ byte ∷ rest) → ⊥
has_it byte [] rest lacks = lacks.0 refl
has_it byte (other ∷ first) rest lacks = has_it byte first rest lacks.1

-- a text is parted at the first such byte in one way
pub one_split : (byte : ℕ) (a b x y : List ℕ) → Lacks byte a → Lacks byte b → a ++ byte ∷ x ≡ b ++ byte ∷ y → (a ≡ b) × (x ≡ y)
one_split byte [] [] x y la lb same = (refl, cc)
one_split byte [] (other ∷ b) x y la lb same = let is : other ≡ byte = cc in absurd (lb.0 is)
one_split byte (other ∷ a) [] x y la lb same = let is : other ≡ byte = cc in absurd (la.0 is)
one_split byte (one ∷ a) (other ∷ b) x y la lb same =
    let rest : (a ≡ b) × (x ≡ y) = one_split byte a b x y la.1 lb.1 (cc) in
    let first : a ≡ b = rest.0 in
    (cc, rest.1)

-- a name has no end of a line
pub name_lacks : (name : List ℕ) → AllPass is_name_byte name → Lacks 10 name
name_lacks [] each = tt
name_lacks (byte ∷ name) each = (
  λ is.
      let passes : is_name_byte 10 ≡ true = subst (λ (b : ℕ). is_name_byte b ≡ true) is (All-head (λ (b : ℕ). is_name_byte b ≡ true) byte name each) in
      cc,
  name_lacks name (All-tail (λ (b : ℕ). is_name_byte b ≡ true) byte name each),
)
