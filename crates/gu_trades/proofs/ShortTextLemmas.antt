-- Short texts are equal if their first bytes and their last bytes are.
use Rattle.std.proofs.Common.{◌≡◌, ◌∙◌, sym, refl, ap, ℕ, zero, suc, ◌+◌, ◌<◌, ◌≤◌, ◌++◌, List, [], ◌∷◌, length, take, drop, get_or, arith}
use Rattle.std.proofs.lemmas.List.{take_all, take-append-drop, take-append-le, length-take, length-drop}
use Rattle.std.proofs.lemmas.Nat.{le_bytes_4, le_bytes_8}
use Rattle.std.specs.Int.{w32, w64, to_le_bytes, from_le_bytes}

-- a list of bytes
abbrev are_bytes : List ℕ → Type 0
are_bytes xs = (i : ℕ) → get_or xs i 0 < 256

-- some of these bytes
are_bytes-some : (xs : List ℕ) (place n : ℕ) → are_bytes xs → are_bytes (take n (drop place xs))
are_bytes-some [] zero zero bytes i = omega arith
are_bytes-some [] zero (suc n) bytes i = omega arith
are_bytes-some [] (suc place) zero bytes i = omega arith
are_bytes-some [] (suc place) (suc n) bytes i = omega arith
are_bytes-some (x ∷ xs) zero zero bytes i = omega arith
are_bytes-some (x ∷ xs) zero (suc n) bytes zero = bytes 0
are_bytes-some (x ∷ xs) zero (suc n) bytes (suc i) = are_bytes-some xs 0 n (λ k. bytes (suc k)) i
are_bytes-some (x ∷ xs) (suc place) n bytes i = are_bytes-some xs place n (λ k. bytes (suc k)) i

length-some : (n place : ℕ) (xs : List ℕ) → place + n ≤ length xs → length (take n (drop place xs)) ≡ n
length-some n place xs within = omega (arith, length-take n (drop place xs), length-drop place xs)

-- fewer of the first elements
take-fewer : (k n : ℕ) (xs : List ℕ) → k ≤ n → n ≤ length xs → take k xs ≡ take k (take n xs)
take-fewer k n xs few within =
    ap (take k) (sym (take-append-drop n xs)) ∙ take-append-le k (take n xs) (drop n xs) (omega (arith, length-take n xs))

-- two texts of at most twice this length are equal if their first parts and their last parts of this length are
pub same-ends : (n rest : ℕ) (a b : List ℕ) → length a ≡ length b → length a ≡ rest + n → rest ≤ n
    → take n a ≡ take n b → take n (drop rest a) ≡ take n (drop rest b) → a ≡ b
same-ends n rest a b one long few first last =
    let front : take rest a ≡ take rest b =
    take-fewer rest n a few (omega arith) ∙ ap (take rest) first ∙ sym (take-fewer rest n b few (omega arith)) in
    let back : drop rest a ≡ drop rest b =
    sym (take_all n (drop rest a) (omega (arith, length-drop rest a))) ∙ last ∙ take_all n (drop rest b) (omega (arith, length-drop rest b)) in
    sym (take-append-drop rest a) ∙ (λ i. front i ++ back i) ∙ take-append-drop rest b

-- compared by four bytes
pub same-fours : (rest : ℕ) (a b : List ℕ) → length a ≡ length b → length a ≡ rest + 4 → rest ≤ 4 → are_bytes a → are_bytes b
    → from_le_bytes w32 (take 4 (drop 0 a)) ≡ from_le_bytes w32 (take 4 (drop 0 b))
    → from_le_bytes w32 (take 4 (drop rest a)) ≡ from_le_bytes w32 (take 4 (drop rest b)) → a ≡ b
same-fours rest a b one long few bytes_a bytes_b first last =
    same-ends 4 rest a b one long few (at 0 (omega arith) first) (at rest (omega arith) last)
  where
    at : (place : ℕ) → place + 4 ≤ length a → from_le_bytes w32 (take 4 (drop place a)) ≡ from_le_bytes w32 (take 4 (drop place b)) → take 4 (drop place a) ≡ take 4 (drop place b)
    at place within same =
        sym (le_bytes_4 (take 4 (drop place a)) _ (length-some 4 place a within) (are_bytes-some a place 4 bytes_a) refl)
        ∙ ap (to_le_bytes w32) same
        ∙ le_bytes_4 (take 4 (drop place b)) _ (length-some 4 place b (omega arith)) (are_bytes-some b place 4 bytes_b) refl

-- compared by eight bytes
pub same-eights : (rest : ℕ) (a b : List ℕ) → length a ≡ length b → length a ≡ rest + 8 → rest ≤ 8 → are_bytes a → are_bytes b
    → from_le_bytes w64 (take 8 (drop 0 a)) ≡ from_le_bytes w64 (take 8 (drop 0 b))
    → from_le_bytes w64 (take 8 (drop rest a)) ≡ from_le_bytes w64 (take 8 (drop rest b)) → a ≡ b
same-eights rest a b one long few bytes_a bytes_b first last =
    same-ends 8 rest a b one long few (at 0 (omega arith) first) (at rest (omega arith) last)
  where
    at : (place : ℕ) → place + 8 ≤ length a → from_le_bytes w64 (take 8 (drop place a)) ≡ from_le_bytes w64 (take 8 (drop place b)) → take 8 (drop place a) ≡ take 8 (drop place b)
    at place within same =
        sym (le_bytes_8 (take 8 (drop place a)) _ (length-some 8 place a within) (are_bytes-some a place 8 bytes_a) refl)
        ∙ ap (to_le_bytes w64) same
        ∙ le_bytes_8 (take 8 (drop place b)) _ (length-some 8 place b (omega arith)) (are_bytes-some b place 8 bytes_b) refl
