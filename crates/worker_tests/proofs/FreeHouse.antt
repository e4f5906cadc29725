-- A house that may answer what it likes.
use Rattle.std.proofs.Common.{ℕ, Option, None, Some, refl}
use Rattle.gu_terms.specs.declared.firm.FirmId.{FirmId}
use Rattle.gu_terms.specs.declared.notice.Stretch.{Stretch}
use Rattle.gu_engine.specs.Houses.{HouseRules, TellsAny}

-- its rules
abbrev pub free : {H : Type 0} → HouseRules H
free = record { answers = λ old request outcome new. Unit {0}; tells = λ old firm from stretch new. Unit {0} }

-- whatever notices it adds to an answer
pub adds_any : {H : Type 0} (house : H) (firm : FirmId) (from : ℕ) (stretch : Option Stretch) → TellsAny free house firm from stretch house
adds_any house firm from None = refl
adds_any house firm from (Some stretch) = tt
