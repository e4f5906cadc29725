-- The differences of bytes, gathered by an or, are 0 if all bytes are the same, and only then.
use Rattle.std.proofs.Common.{◌≡◌, ◌<◌, ◌+◌, ◌↔◌, ℕ, List, length, get_or, refl, arith, below_more}
use Rattle.std.specs.Prelude.{bit_or, bit_xor}
use Rattle.std.specs.Int.Bits.{xor_add_and, xor_self}
use Rattle.std.proofs.lemmas.List.{ext_get_or}
use Rattle.std.proofs.lemmas.Nat.{and_le_l, and_le_r, le_or_l, le_or_r}

-- bytes have no difference if they are the same
same_from_xor : (a b : ℕ) → bit_xor a b ≡ 0 → a ≡ b
same_from_xor a b none = omega (arith, none, xor_add_and a b, and_le_l a b, and_le_r a b)

-- the bytes before a place are the same
abbrev pub AreSameBelow : ℕ → List ℕ → List ℕ → Type 0
AreSameBelow place left right = (k : ℕ) → k < place → get_or left k 0 ≡ get_or right k 0

-- with one byte more
pub one_more : (differences place : ℕ) (left right : List ℕ) → (differences ≡ 0) ↔ AreSameBelow place left right
    → (bit_or differences (bit_xor (get_or left place 0) (get_or right place 0)) ≡ 0) ↔ AreSameBelow (place + 1) left right
one_more differences place left right so_far =
    let a = get_or left place 0 in
    let b = get_or right place 0 in (
      λ none.
          let before : differences ≡ 0 = omega (arith, none, le_or_l differences (bit_xor a b)) in
          let here : bit_xor a b ≡ 0 = omega (arith, none, le_or_r differences (bit_xor a b)) in
          below_more _ _ (so_far.0 before) (same_from_xor a b here),
      λ same.
          let before : differences ≡ 0 = so_far.1 (λ k below. same k (omega (arith, below))) in
          let here : a ≡ b = same place (omega arith) in
          rw (before, here, xor_self b) refl,
    )

-- bytes of one length that are the same up to it
pub same_bytes : (left right : List ℕ) → length left ≡ length right → AreSameBelow (length left) left right → left ≡ right
same_bytes left right long same = ext_get_or 0 left right long same
