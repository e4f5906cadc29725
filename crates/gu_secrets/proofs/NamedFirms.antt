-- A firm is found by its name.
use Rattle.std.proofs.Common.{◌≡◌, ◌∷◌, [], ◌∙◌, ℕ, zero, suc, false, List, Some, ap, arith, inl, inr}
use Rattle.std.specs.Prelude.{Contains}
use Rattle.std.specs.Str.{bytes_eq}
use Rattle.std.proofs.lemmas.Bool.{both_ways, cases_Bool, cond-false, cond-true}
use Rattle.std.proofs.lemmas.Slice.Eq.{bytes_eq-Decides}
use Rattle.gu_terms.specs.declared.firm.FirmId.{FirmId}
use Rattle.gu_secrets.specs.Secrets.{firm_named}

-- a firm is its name
firm_from_name : (left right : FirmId) → left.name ≡ right.name → left ≡ right
firm_from_name left right same = let made : List ℕ → FirmId = λ name. record { name = name } in ap made same

-- a firm that isn't the first one is among the others
among_others : (first firm : FirmId) (others : List FirmId) → Contains (first ∷ others) firm → bytes_eq first.name firm.name ≡ false → Contains others firm
among_others first firm others (zero, within, at) other =
    absurd (both_ways _ other ((bytes_eq-Decides first.name firm.name).1 (ap (λ (f : FirmId). f.name) at)))
among_others first firm others (suc k, within, at) other = (k, omega (arith, within), at)

-- a firm is found by its name
pub named : (firms : List FirmId) (firm : FirmId) → Contains firms firm → firm_named firms firm.name ≡ Some firm
named [] firm (k, within, at) = absurd (omega (arith, within))
named (first ∷ others) firm has =
    elim (cases_Bool (bytes_eq first.name firm.name)) [
      | inl same ↦
          cond-true (bytes_eq first.name firm.name) (Some first) (firm_named others firm.name) same
          ∙ ap Some (firm_from_name first firm ((bytes_eq-Decides first.name firm.name).0 same))
      | inr other ↦
          cond-false (bytes_eq first.name firm.name) (Some first) (firm_named others firm.name) other
          ∙ named others firm (among_others first firm others has other)
    ]
