-- Reading the tag of a part.
use Rattle.std.proofs.Common.{◌≡◌, ◌≤◌, ◌⊎◌, ℕ, ◌<◌, List, ◌∷◌, ◌++◌, length, take, get_or, refl, sym, ap, ◌∙◌, arith, inl, inr}
use Rattle.std.specs.Int.{IsOutOfRange}
use Rattle.std.specs.Str.Parse.{AllDigits}
use Rattle.std.proofs.lemmas.List.{get_or_at, get_or-take, get_or_append_left, length-append, length-take}
use Rattle.std.proofs.lemmas.Bool.{cases_order}
use Rattle.std.proofs.lemmas.Str.Parse.{digit_at}
use Rattle.gu_fix.specs.Fields.{HasTag}

-- `=` comes after the tag's text
pub equals_at : (part text value : List ℕ) → part ≡ text ++ 61 ∷ value → (get_or part (length text) 0 ≡ 61) × (length text < length part)
equals_at part text value e = (
  ap (λ (t : List ℕ). get_or t (length text) 0) e ∙ get_or_at text 61 value 0 (length text) refl,
  omega (arith, ap length e, length-append text (61 ∷ value)),
)

-- leading digits of a part reach no further than the text of its tag
pub digits_within : (part text value : List ℕ) (i : ℕ) → AllDigits 10 (take i part) → part ≡ text ++ 61 ∷ value → i ≤ length text
digits_within part text value i all e =
    let at = equals_at part text value e in
    let n = length text in
    elim (cases_order n i) [
      | inl same ↦ omega (arith, same)
      | inr (inl lt) ↦
          let short : n < length (take i part) = omega (arith, length-take i part, at.1, lt) in
          let digit = digit_at (take i part) n all short in
          let here : get_or (take i part) n 0 ≡ 61 = get_or-take i part n 0 lt ∙ at.0 in
          absurd (omega (arith, digit.1, here))
      | inr (inr gt) ↦ omega (arith, gt)
    ]

-- if digits are followed by neither `=` nor one more digit of a tag, there is no tag
pub no_tag_after : (part : List ℕ) (i : ℕ) → AllDigits 10 (take i part) → (get_or part i 0 ≡ 61 → ⊥) → (i ≡ 9) ⊎ IsOutOfRange 48 57 (get_or part i 0) → (tag : ℕ) (value : List ℕ) → HasTag part tag value → ⊥
no_tag_after part i all other why tag value h =
    let at = equals_at part h.text value h.parts in
    let n = length h.text in
    elim (cases_order n i) [
      | inl same ↦ other (ap (λ k. get_or part k 0) (sym same) ∙ at.0)
      | inr (inl lt) ↦ absurd (omega (arith, digits_within part h.text value i all h.parts, lt))
      | inr (inr gt) ↦
          elim why [
            | inl nine ↦ absurd (omega (arith, nine, gt, h.is_tag.most))
            | inr out ↦
                let digit = digit_at h.text i h.is_tag.all gt in
                let here : get_or h.text i 0 ≡ get_or part i 0 = sym (get_or_append_left h.text (61 ∷ value) 0 i gt) ∙ ap (λ (t : List ℕ). get_or t i 0) (sym h.parts) in
                absurd (elim out [ inl low ↦ omega (arith, digit.0, here, low) | inr high ↦ omega (arith, digit.1, here, high) ])
          ]
    ]

-- nor is there one if only digits have come
pub no_tag_in_digits : (part : List ℕ) (i : ℕ) → AllDigits 10 (take i part) → length part ≤ i → (tag : ℕ) (value : List ℕ) → HasTag part tag value → ⊥
no_tag_in_digits part i all end tag value h =
    omega (arith, digits_within part h.text value i all h.parts, (equals_at part h.text value h.parts).1, end)
