-- A path names each key once.
use Rattle.gu_limits.proofs.Words.{refl, Option, None, Some, IsDistinct, key_eq, AgreementId}
use Rattle.gu_terms.specs.Paths.{path_through}
use Rattle.gu_terms.specs.declared.account.AccountId.{AccountId}
use Rattle.gu_terms.specs.declared.firm.FirmId.{FirmId}

-- its keys are of different kinds
pub kinds_differ : (executing : FirmId) (agreement : AgreementId) (account : AccountId) (carrying : FirmId) (guarantor : Option FirmId)
    → IsDistinct key_eq (path_through executing agreement account carrying guarantor)
unfolding IsDistinct
kinds_differ executing agreement account carrying None = ((refl, (refl, (refl, tt))), ((refl, (refl, tt)), ((refl, tt), (tt, tt))))
kinds_differ executing agreement account carrying (Some firm) =
    ((refl, (refl, (refl, (refl, tt)))), ((refl, (refl, (refl, tt))), ((refl, (refl, tt)), ((refl, tt), (tt, tt)))))
