-- Receipts of a seat: one more, and those for a longer history.
use Rattle.std.proofs.Common.{◌≡◌, ◌∙◌, ℕ, zero, suc, ◌+◌, ◌<◌, List, [], ◌∷◌, ◌++◌, length, Option, Some, None, IfSome, Bor, slice_get, refl, ap, sym, subst, arith, append_assoc, length-append}
use Rattle.std.proofs.lemmas.List.Elements.{All-push, All-nil, All-pop, All-weaker}
use mathlib.Core.List.{IsPrefix}
use Rattle.gu_terms.specs.Histories.{entry_at}
use Rattle.gu_terms.specs.declared.entry.Entry.{Entry}
use Rattle.gu_terms.specs.declared.receipt.Receipt.{Receipt}
use Rattle.gu_ref.specs.Tables.{Tables}
use Rattle.gu_desk.specs.Audits.{IsReceiptOf}
use Rattle.gu_book.specs.declared.error.EnterError.{EnterError}
use Rattle.gu_book.specs.declared.error.EnterError.TheVariants as refusal
use Rattle.gu_desk.specs.Holds.{Enters, IsRefused, Sees}
use Rattle.gu_desk.specs.Seats.{SeatState}
use Rattle.gu_houses.specs.Receipts.{AreOf, HasReceipts}

-- an entry of a prefix has the same number later
seen_later : (front more : List Entry) (place : ℕ) (entry : Entry) → slice_get front place ≡ Some entry → slice_get (front ++ more) place ≡ Some entry
seen_later [] more place entry at = absurd (cc at)
seen_later (first ∷ front) more zero entry at = at
seen_later (first ∷ front) more (suc place) entry at = seen_later front more place entry at

-- a receipt for an entry of a prefix is one for the whole
pub receipt_later : (front history : List Entry) (receipt : Receipt) → IsPrefix front history → IsReceiptOf front receipt → IsReceiptOf history receipt
receipt_later front history receipt begins is = subst (λ (h : List Entry). IsReceiptOf h receipt) begins.1 (later receipt.number is)
  where
    later : (number : ℕ) → entry_at front number ≡ Some receipt.entry → entry_at (front ++ begins.0) number ≡ Some receipt.entry
    later zero at = at
    later (suc place) at = seen_later front begins.0 place receipt.entry at

-- the number of the last entry is the number of entries
last_at : (before : List Entry) (entry : Entry) → slice_get (before ++ entry ∷ []) (length before) ≡ Some entry
last_at [] entry = refl
last_at (first ∷ before) entry = last_at before entry

-- the receipts for a prefix are those for the whole
pub receipts_later : (opening : ℕ) (front history : List Entry) (rs : List Receipt) → IsPrefix front history → AreOf front opening rs → AreOf history opening rs
receipts_later opening front history rs begins each =
    All-weaker (λ (r : Receipt). IsReceiptOf front r × (opening < r.number)) (λ (r : Receipt). IsReceiptOf history r × (opening < r.number))
    (λ r is. (receipt_later front history r begins is.0, is.1)) rs each

module _ (reference : Tables) (opening : ℕ) (old new : SeatState) (rs : List Receipt) (have : HasReceipts opening old rs) where
  -- the receipts of a seat that sees more
  receipts_seen : Sees reference old new → HasReceipts opening new rs
  receipts_seen sees = record { count = have.count ∙ sym sees.entries_is; each = receipts_later opening old.front new.front rs sees.begins have.each }

  receipts_same : new ≡ old → HasReceipts opening new rs
  receipts_same same = subst (λ (s : SeatState). HasReceipts opening s rs) (sym same) have

  -- the receipts of a seat whose command is refused
  pub receipts_refused : (why : EnterError) → IsRefused reference old why new → HasReceipts opening new rs
  receipts_refused refusal.Full is = receipts_seen is.0
  receipts_refused refusal.Memory is = receipts_same is

-- nothing was entered, and there are no receipts
pub no_receipts : (opening : ℕ) (seat : SeatState) → seat.entries ≡ 0 → HasReceipts opening seat []
no_receipts opening seat none = record { count = sym none; each = All-nil (λ (r : Receipt). IsReceiptOf seat.front r × (opening < r.number)) }

-- the receipt for what a seat entered is one for what it then sees
pub entered_receipt : (reference : Tables) (old new : SeatState) (r : Receipt) → Enters reference old r new → IsReceiptOf new.front r
entered_receipt reference old new r enters =
    let size : r.number ≡ suc (length enters.before) = enters.number_is ∙ ap (λ (l : List Entry). length l) enters.front_is ∙ length-append enters.before (r.entry ∷ []) ∙ omega arith in
    ap (entry_at new.front) size ∙ ap (λ (l : List Entry). slice_get l (length enters.before)) enters.front_is ∙ last_at enters.before r.entry

-- what a seat had seen is a prefix of what it sees after an entry
seen_before : (reference : Tables) (old new : SeatState) (r : Receipt) → Enters reference old r new → IsPrefix old.front new.front
seen_before reference old new r enters =
    let begins = enters.begins in
    (begins.0 ++ r.entry ∷ [], sym (append_assoc old.front begins.0 (r.entry ∷ [])) ∙ ap (λ (l : List Entry). l ++ r.entry ∷ []) begins.1 ∙ sym enters.front_is)

-- one more entry and its receipt
pub one_more : (reference : Tables) (opening : ℕ) (old new : SeatState) (rs : List Receipt) (r : Receipt)
    → HasReceipts opening old rs → Enters reference old r new → opening + old.entries < r.number → HasReceipts opening new (rs ++ r ∷ [])
one_more reference opening old new rs r have enters later = record {
  count = let count = have.count in let one = enters.entries_is in omega (arith, length-append rs (r ∷ []));
  each = All-push (λ (r : Receipt). IsReceiptOf new.front r × (opening < r.number)) rs r
      (receipts_later opening old.front new.front rs (seen_before reference old new r enters) have.each)
      (entered_receipt reference old new r enters, omega (arith, later));
}

-- the last of a seat's receipts, if there is one
pub last_entered : (opening : ℕ) (seat : SeatState) (rs : List Receipt) (o : Option (Bor Receipt))
    → IfSome o (λ last. (earlier : List Receipt) × (rs ≡ earlier ++ last.now ∷ [])) → HasReceipts opening seat rs
    → IfSome o (λ last. (0 < seat.entries) × IsReceiptOf seat.front last.now)
last_entered opening seat rs None is have = tt
last_entered opening seat rs (Some last) is have =
    let long = ap length is.1 in
    let count = have.count in
    let popped = All-pop (λ (r : Receipt). IsReceiptOf seat.front r × (opening < r.number)) rs is.0 (Some last.now) is.1 have.each in
    (omega (arith, length-append is.0 (last.now ∷ [])), popped.1.0)
