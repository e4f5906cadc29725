-- Sets of firms that fit in one number.
use Rattle.gu_notices.proofs.Words.{◌≡◌, ◌<◌, ◌-◌, ◌+◌, ◌*◌, ◌^◌, ℕ, true, not, List, [], ◌∷◌, ap, ◌∙◌, ◌==◌, ◌%◌, max, refl, inl, inr, arith, fold, cases_Bool, may_hold, next_place, place_of}
use Rattle.std.specs.Int.{bit_at, w64}
use Rattle.std.specs.Int.RustNames.{bit_or}
use Rattle.std.proofs.lemmas.Bool.Decides.{Decides-eqb}
use Rattle.std.proofs.lemmas.Nat.Bits.{bit_at_ones, bit_at_or, bit_at_set_same}
use Rattle.std.proofs.lemmas.Nat.{mod_below}
use Rattle.gu_terms.specs.declared.firm.FirmId.{FirmId}

-- a firm has one of 64 places
pub place_few : (firm : FirmId) → place_of firm < 64
place_few firm = go firm.name 0 (omega arith)
  where
    go : (bytes : List ℕ) (place : ℕ) → place < 64 → fold next_place place bytes < 64
    go [] place few = few
    go (byte ∷ bytes) place few = go bytes (next_place place byte) (mod_below (place * 17 + byte) 64 (omega arith))

-- a set with all bits may hold every firm
pub holds-every : (firm : FirmId) → may_hold (record { places = 2 ^ 64 - 1 }) firm ≡ true
holds-every firm = ap (λ (bit : ℕ). not (bit == 0)) (bit_at_ones 64 (place_of firm) (place_few firm))

-- a set with a bit holds the firms with that bit
pub holds-added : (places place : ℕ) (firm : FirmId) → place ≡ place_of firm → may_hold (record { places = bit_or places (1 * 2 ^ place % 2 ^ 64) }) firm ≡ true
holds-added places place firm is = rw is (ap (λ (bit : ℕ). not (bit == 0)) (bit_at_set_same w64 places (place_of firm) (place_few firm)))

-- with more bits, the firms that were held before are still held
pub holds-still : (places more : ℕ) (firm : FirmId) → may_hold (record { places = places }) firm ≡ true → may_hold (record { places = bit_or places more }) firm ≡ true
holds-still places more firm held =
    ap (λ (bit : ℕ). not (bit == 0)) (bit_at_or places more (place_of firm)) ∙ go (bit_at places (place_of firm)) (bit_at more (place_of firm)) held
  where
    go : (one two : ℕ) → not (one == 0) ≡ true → not (max one two == 0) ≡ true
    go one two set =
        elim (cases_Bool (max one two == 0)) [
          | inl hit ↦
              let most : max one two ≡ 0 = (Decides-eqb (max one two) 0).0 hit in
              let none : one ≡ 0 = omega (arith, most) in
              let no : not (0 == 0) ≡ true = rw none at set in
              cc
          | inr miss ↦ rw miss refl
        ]
