-- When two values of one type are the same.
use Rattle.std.specs.Prelude.{Bool, true, false, ◌==◌, ◌&&◌}
use Rattle.std.specs.Str.{bytes_eq}
use Rattle.gu_terms.specs.declared.account.AccountId.{AccountId}
use Rattle.gu_terms.specs.declared.agreement.AgreementId.{AgreementId}
use Rattle.gu_terms.specs.declared.day.Day.{Day}
use Rattle.gu_terms.specs.declared.firm.FirmId.{FirmId}
use Rattle.gu_terms.specs.declared.group.Group.{Group}
use Rattle.gu_terms.specs.declared.id.Id.{Id}
use Rattle.gu_terms.specs.declared.side.Side.{Side}
use Rattle.gu_terms.specs.declared.side.Side.TheVariants.{Buy, Sell}
use Rattle.gu_terms.specs.declared.symbol.Symbol.{Symbol}

-- the same firm
abbrev pub same_firm : FirmId → FirmId → Bool
same_firm a b = bytes_eq a.name b.name

-- the same product group
abbrev pub same_group : Group → Group → Bool
same_group a b = bytes_eq a.name b.name

-- the same instrument
abbrev pub same_symbol : Symbol → Symbol → Bool
same_symbol a b = bytes_eq a.name b.name

-- the same account
abbrev pub same_account : AccountId → AccountId → Bool
same_account a b = bytes_eq a.name b.name

-- the same agreement
abbrev pub same_agreement : AgreementId → AgreementId → Bool
same_agreement a b = bytes_eq a.name b.name

-- the same id
abbrev pub same_id : Id → Id → Bool
same_id a b = bytes_eq a b

-- the same day
abbrev pub same_day : Day → Day → Bool
same_day a b = a.year == b.year && a.month == b.month && a.day == b.day

-- the same side
abbrev pub same_side : Side → Side → Bool
same_side Buy Buy = true
same_side Sell Sell = true
same_side _ _ = false
