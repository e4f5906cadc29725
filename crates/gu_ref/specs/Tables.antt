-- Reference data, each kind in the order of declaration.
use Rattle.std.specs.Prelude.{List}
use Rattle.gu_terms.specs.declared.firm.FirmId.{FirmId}
use Rattle.gu_terms.specs.declared.group.Group.{Group}
use Rattle.gu_ref.specs.declared.instruments.Instrument.{Instrument}
use Rattle.gu_ref.specs.declared.accounts.Account.{Account}
use Rattle.gu_ref.specs.declared.agreements.Agreement.{Agreement}
use Rattle.gu_ref.specs.declared.guarantors.Guarantor.{Guarantor}

-- the tables of a reference
pub record Tables : Type 0 where
  pub firms : List FirmId
  pub groups : List Group
  pub instruments : List Instrument
  pub accounts : List Account
  pub agreements : List Agreement
  pub guarantors : List Guarantor
