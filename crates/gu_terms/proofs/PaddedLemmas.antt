-- Texts padded with zeros, compared four bytes at a time and filled in byte by byte.
use Rattle.std.proofs.Common.{◌≡◌, Bool, true, subst, ℕ, zero, suc, ◌+◌, ◌-◌, ◌<◌, ◌≤◌, ◌++◌, List, [], ◌∷◌, length, take, drop, get_or, ap, ◌∙◌, sym, refl, arith}
use Rattle.std.specs.Prelude.{replicate}
use Rattle.std.specs.List.{AllPass}
use Rattle.std.proofs.lemmas.List.Elements.{All-push}
use Rattle.std.proofs.Math.Seq.{drop-append-add, take-append_seam}
use Rattle.std.proofs.lemmas.List.{append_assoc, take_all, take_more, take-append-drop, drop-drop, length-take, length-drop}
use Rattle.std.proofs.lemmas.Nat.{le_bytes_4}
use Rattle.std.specs.Int.{w32, to_le_bytes, from_le_bytes}
use Rattle.gu_terms.specs.Padded.{padded}

-- a list of bytes
abbrev are_bytes : List ℕ → Type 0
are_bytes xs = (i : ℕ) → get_or xs i 0 < 256

-- four of its elements, starting at an index
abbrev four : ℕ → List ℕ → List ℕ
four place xs = take 4 (drop place xs)

-- four elements of a list of bytes are bytes
are_bytes-four : (xs : List ℕ) (place n : ℕ) → are_bytes xs → are_bytes (take n (drop place xs))
are_bytes-four [] zero zero bytes i = omega arith
are_bytes-four [] zero (suc n) bytes i = omega arith
are_bytes-four [] (suc place) zero bytes i = omega arith
are_bytes-four [] (suc place) (suc n) bytes i = omega arith
are_bytes-four (x ∷ xs) zero zero bytes i = omega arith
are_bytes-four (x ∷ xs) zero (suc n) bytes zero = bytes 0
are_bytes-four (x ∷ xs) zero (suc n) bytes (suc i) = are_bytes-four xs 0 n (λ k. bytes (suc k)) i
are_bytes-four (x ∷ xs) (suc place) n bytes i = are_bytes-four xs place n (λ k. bytes (suc k)) i

-- four bytes with the same number are the same
four-same : (place : ℕ) (a b : List ℕ) → length (four place a) ≡ 4 → length (four place b) ≡ 4 → are_bytes a → are_bytes b
    → from_le_bytes w32 (four place a) ≡ from_le_bytes w32 (four place b) → four place a ≡ four place b
four-same place a b long_a long_b bytes_a bytes_b same =
    sym (le_bytes_4 (four place a) _ long_a (are_bytes-four a place 4 bytes_a) refl)
    ∙ ap (to_le_bytes w32) same
    ∙ le_bytes_4 (four place b) _ long_b (are_bytes-four b place 4 bytes_b) refl

-- four elements of twelve
length-four : (place : ℕ) (xs : List ℕ) → place + 4 ≤ length xs → length (four place xs) ≡ 4
length-four place xs within = omega (arith, length-take 4 (drop place xs), length-drop place xs)

-- twelve elements are three times four
three_fours : (xs : List ℕ) → length xs ≡ 12 → four 0 xs ++ (four 4 xs ++ four 8 xs) ≡ xs
three_fours xs long =
    ap (λ l. take 4 xs ++ (four 4 xs ++ l)) (take_all 4 (drop 8 xs) (omega (arith, length-drop 8 xs)) ∙ sym (drop-drop 4 4 xs))
    ∙ ap (λ l. take 4 xs ++ l) (take-append-drop 4 (drop 4 xs))
    ∙ take-append-drop 4 xs

-- twelve bytes with the same three numbers are the same
pub twelve-same : (a b : List ℕ) → length a ≡ 12 → length b ≡ 12 → are_bytes a → are_bytes b
    → from_le_bytes w32 (four 0 a) ≡ from_le_bytes w32 (four 0 b)
    → from_le_bytes w32 (four 4 a) ≡ from_le_bytes w32 (four 4 b)
    → from_le_bytes w32 (four 8 a) ≡ from_le_bytes w32 (four 8 b)
    → a ≡ b
twelve-same a b long_a long_b bytes_a bytes_b first second third =
    let at0 = four-same 0 a b (length-four 0 a (omega arith)) (length-four 0 b (omega arith)) bytes_a bytes_b first in
    let at4 = four-same 4 a b (length-four 4 a (omega arith)) (length-four 4 b (omega arith)) bytes_a bytes_b second in
    let at8 = four-same 8 a b (length-four 8 a (omega arith)) (length-four 8 b (omega arith)) bytes_a bytes_b third in
    sym (three_fours a long_a) ∙ (λ i. at0 i ++ (at4 i ++ at8 i)) ∙ three_fours b long_b

-- texts of one length are the same if they are when padded
pub padded-same : (size : ℕ) (a b : List ℕ) → length a ≡ length b → padded size a ≡ padded size b → a ≡ b
padded-same size a b long same = sym (take-append_seam a _) ∙ (λ i. take (long i) (same i)) ∙ take-append_seam b _

-- ---- zeros overwritten

-- the next byte overwrites the first zero
pub next_put : (bytes : List ℕ) (place : ℕ) → place < length bytes
    → take place (take place bytes ++ replicate (length bytes - place) 0) ++ (get_or bytes place 0 ∷ drop (place + 1) (take place bytes ++ replicate (length bytes - place) 0))
    ≡ take (place + 1) bytes ++ replicate (length bytes - (place + 1)) 0
next_put bytes place within =
    let front = take place bytes in
    let rest = replicate (length bytes - (place + 1)) 0 in
    let long : length front ≡ place = length_front bytes place within in
    let zeros : replicate (length bytes - place) 0 ≡ 0 ∷ rest = ap (λ (n : ℕ). replicate n 0) (one_more (length bytes) place within) in
    let left : take place (front ++ replicate (length bytes - place) 0) ≡ front = ap (λ (n : ℕ). take n (front ++ replicate (length bytes - place) 0)) (sym long) ∙ take-append_seam front _ in
    let right : drop (place + 1) (front ++ replicate (length bytes - place) 0) ≡ rest =
    ap (λ (n : ℕ). drop (n + 1) (front ++ replicate (length bytes - place) 0)) (sym long) ∙ ap (λ (zs : List ℕ). drop (length front + 1) (front ++ zs)) zeros ∙ drop-append-add front (0 ∷ rest) 1 in
    (λ i. left i ++ (get_or bytes place 0 ∷ right i))
    ∙ sym (append_assoc front (get_or bytes place 0 ∷ []) rest)
    ∙ ap (λ (xs : List ℕ). xs ++ rest) (sym (take_more bytes place 0 within))
  where
    length_front : (xs : List ℕ) (i : ℕ) → i < length xs → length (take i xs) ≡ i
    length_front xs i h = omega (arith, length-take i xs)

    one_more : (n i : ℕ) → i < n → n - i ≡ suc (n - (i + 1))
    one_more n i h = omega (arith, h)

-- one more byte passes a test
pub next_passes : (p : ℕ → Bool) (bytes : List ℕ) (place : ℕ) → place < length bytes → AllPass p (take place bytes) → p (get_or bytes place 0) ≡ true → AllPass p (take (place + 1) bytes)
next_passes p bytes place within pass is = subst (AllPass p) (sym (take_more bytes place 0 within)) (All-push (λ b. p b ≡ true) (take place bytes) (get_or bytes place 0) pass is)
