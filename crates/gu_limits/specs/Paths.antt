-- The path of an agreement: the keys that apply to its offers.
use Rattle.std.specs.Prelude.{List, Option}
use Rattle.std.specs.Option.{option_and_then, option_map}
use Rattle.gu_terms.specs.Paths.{path_through}
use Rattle.gu_terms.specs.declared.agreement.AgreementId.{AgreementId}
use Rattle.gu_terms.specs.declared.limit_key.LimitKey.{LimitKey}
use Rattle.gu_ref.specs.Reference.{account_row, agreement_row, guarantor_of}
use Rattle.gu_ref.specs.Tables.{Tables}

-- the path of an agreement: its executing firm, itself, its account, the firm that carries the account, and that firm's guarantor if it has
-- one
abbrev pub path_of : Tables → AgreementId → Option (List LimitKey)
path_of reference id =
    option_and_then
    (λ agreement.
    option_map
    (λ carried. path_through agreement.executing id agreement.account carried.firm (guarantor_of reference carried.firm))
    (account_row reference agreement.account))
    (agreement_row reference id)
