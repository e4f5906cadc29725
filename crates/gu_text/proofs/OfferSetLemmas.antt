-- A set of offers, with one bit for each.
use Rattle.std.proofs.Common.{◌≡◌, ◌≢◌, ◌<◌, ◌*◌, ◌/◌, ◌%◌, ◌^◌, ◌==◌, ◌||◌, ◌∙◌, ◌∷◌, ◌++◌, [], ℕ, Bool, true, false, List, length, get_or, map, nat_eq, bit_or, refl, sym, ap, inl, inr, arith, w64}
use Rattle.std.proofs.Math.ListN.{set}
use Rattle.std.specs.Int.{bit_at}
use Rattle.std.specs.List.{IsDistinct, list_any}
use Rattle.std.proofs.lemmas.Cmp.{nat_eq_equiv}
use Rattle.std.proofs.lemmas.List.Folds.{list_any-append}
use Rattle.std.proofs.lemmas.Map.Keys.{IsDistinct-push}
use Rattle.std.proofs.lemmas.Bool.{eq-eqb, ne_eqb}
use Rattle.std.proofs.lemmas.Bool.Decides.{eqb_tells}
use Rattle.std.proofs.lemmas.List.{get_or-set_other, map-append}
use Rattle.std.proofs.lemmas.Grind.{get_or-set_at}
use Rattle.std.proofs.lemmas.Nat.Bits.{bit_at_set_same, bit_at_set_other}
use Rattle.gu_terms.specs.Cuts.{has_number}
use Rattle.gu_terms.specs.declared.takes.Take.{Take}
use Rattle.gu_text.specs.OfferSets.{is_marked, MarksOffers}

or_false : (b : Bool) → (b || false) ≡ b
or_false true = refl
or_false false = refl

-- a word with one more bit
abbrev pub with_bit : ℕ → ℕ → ℕ
with_bit word bit = bit_or word (1 * 2 ^ bit % 18446744073709551616)

module _ (words : List ℕ) (offer other : ℕ) (inside : offer / 64 < length words) where
  abbrev word : ℕ
  word = get_or words (offer / 64) 0

  abbrev new : List ℕ
  new = set words (offer / 64) (with_bit word (offer % 64))

  -- a bit of the word that changes
  same_word : other / 64 ≡ offer / 64 → is_marked new other ≡ (bit_at (with_bit word (offer % 64)) (other % 64) == 1)
  same_word at = ap (λ w. bit_at w (other % 64) == 1) (get_or-set_at words (offer / 64) (other / 64) (with_bit word (offer % 64)) 0 at inside)

  others : other ≢ offer → (other == offer || is_marked words other) ≡ is_marked words other
  others apart = ap (λ b. b || is_marked words other) (ne_eqb other offer apart)

  -- one more offer is marked
  pub is_marked-set : is_marked new other ≡ (other == offer || is_marked words other)
  is_marked-set =
      elim (eqb_tells (other / 64) (offer / 64)) [
        | inl place ↦ elim (eqb_tells (other % 64) (offer % 64)) [
          | inl bit ↦
              let same : other ≡ offer = omega (arith, place.1, bit.1) in
              same_word place.1
              ∙ ap (λ n. n == 1) (ap (bit_at (with_bit word (offer % 64))) bit.1 ∙ bit_at_set_same w64 word (offer % 64) (omega arith))
              ∙ sym (ap (λ b. b || is_marked words other) (eq-eqb other offer same))
          | inr bit ↦
              same_word place.1
              ∙ ap (λ n. n == 1) (bit_at_set_other w64 word (offer % 64) (omega arith) (other % 64) bit.1)
              ∙ ap (λ p. bit_at (get_or words p 0) (other % 64) == 1) (sym place.1)
              ∙ sym (others (λ e. bit.1 (ap (λ n. n % 64) e)))
        ]
        | inr place ↦
            ap (λ w. bit_at w (other % 64) == 1) (get_or-set_other words (offer / 64) (other / 64) (with_bit word (offer % 64)) 0 place.1)
            ∙ sym (others (λ e. place.1 (ap (λ n. n / 64) e)))
      ]

-- ---- marked offers

named_alike : (n : ℕ) (numbers : List ℕ) → list_any (nat_eq n) numbers ≡ has_number numbers n
named_alike n [] = refl
named_alike n (m ∷ numbers) = rw (nat_eq_equiv.symm n m, named_alike n numbers) refl

has_number-push : (numbers : List ℕ) (n other : ℕ) → has_number (numbers ++ n ∷ []) other ≡ (other == n || has_number numbers other)
has_number-push numbers n other = list_any-append (λ m. m == other) numbers (n ∷ []) ∙ turned (has_number numbers other) (n == other) (other == n) (nat_eq_equiv.symm n other)
  where
    turned : (a b c : Bool) → b ≡ c → (a || (b || false)) ≡ (c || a)
    turned true b true same = refl
    turned true b false same = refl
    turned false b c same = or_false b ∙ same ∙ sym (or_false c)

-- no offers, and no marks
pub marks_none : (words : List ℕ) → ((offer : ℕ) → is_marked words offer ≡ false) → MarksOffers words []
unfolding IsDistinct
marks_none words none = record { marked = none; distinct = tt }

-- one more offer, which wasn't marked, and its mark
pub marks_more : (words more offers : List ℕ) (next : ℕ) → MarksOffers words offers → is_marked words next ≡ false
    → ((other : ℕ) → is_marked more other ≡ (other == next || is_marked words other)) → MarksOffers more (offers ++ next ∷ [])
marks_more words more offers next marks fresh adds = record {
  marked = λ other. adds other ∙ ap (λ b. other == next || b) (marks.marked other) ∙ sym (has_number-push offers next other);
  distinct = IsDistinct-push nat_eq_equiv offers next marks.distinct (named_alike next offers ∙ sym (marks.marked next) ∙ fresh);
}

-- the offers of one more take
pub offers_of_more : (takes : List Take) (next : Take) → map (λ (t : Take). t.offer) (takes ++ next ∷ []) ≡ map (λ (t : Take). t.offer) takes ++ next.offer ∷ []
offers_of_more takes next = map-append (λ (t : Take). t.offer) takes (next ∷ [])
