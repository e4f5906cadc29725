-- A seat as a house: the notices that come with an entry.
use Rattle.std.proofs.Common.{◌≡◌, ℕ, [], Some, refl, sym, subst, append-nil}
use Rattle.gu_terms.specs.declared.firm.FirmId.{FirmId}
use Rattle.gu_terms.specs.declared.notice.Stretch.{Stretch}
use Rattle.gu_terms.specs.declared.receipt.Receipt.{Receipt}
use Rattle.gu_ref.specs.Tables.{Tables}
use Rattle.gu_rules.specs.BookState.{BookState}
use Rattle.gu_rules.specs.Notices.{IsStretch}
use Rattle.gu_desk.specs.Holds.{book_seen, Enters, IsStretchAsked}
use Rattle.gu_desk.specs.Seats.{SeatState}
use Rattle.gu_houses.specs.SeatHouse.{SeatTells}

-- the batch that a firm asked for, from a number on
asked_stretch : (book : BookState) (firm : FirmId) (from : ℕ) (stretch : Stretch) → IsStretchAsked book (Some (firm, from)) stretch → IsStretch book firm from stretch
asked_stretch book firm from stretch asked =
    let same : (firm, from) ≡ (asked.firm, asked.from) = cc (asked.asked_is) in
    subst (λ (t : FirmId × ℕ). IsStretch book t.0 t.1 stretch) (sym same) asked.stretch_is

-- the notices requested with an entry are those that the seat then has
pub told_then : (reference : Tables) (old new : SeatState) (receipt : Receipt) (firm : FirmId) (from : ℕ) (stretch : Stretch)
    → Enters reference old receipt new → IsStretchAsked (book_seen reference new) (Some (firm, from)) stretch → SeatTells reference new firm from stretch new
told_then reference old new receipt firm from stretch enters asked = record {
  stretch_is = asked_stretch (book_seen reference new) firm from stretch asked;
  sees = record { begins = ([], append-nil new.front); legal = enters.legal; entries_is = refl; swept_is = refl };
}
