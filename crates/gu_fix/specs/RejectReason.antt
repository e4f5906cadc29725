-- SessionRejectReason, tag 373 (FIXT 1.1, Reject).
use Rattle.std.specs.Prelude.{ℕ}
use Rattle.gu_fix.specs.declared.error.SessionRejectReason.{SessionRejectReason}
use Rattle.gu_fix.specs.declared.error.SessionRejectReason.TheVariants.{InvalidTagNumber, TagSpecifiedWithoutAValue}

-- the number of a reason in tag 373
abbrev pub number_of : SessionRejectReason → ℕ
number_of InvalidTagNumber = 0
number_of TagSpecifiedWithoutAValue = 4
