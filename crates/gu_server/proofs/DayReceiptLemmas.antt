-- Receipts of a day: those of one seat more, and those of all seats.
use Rattle.std.proofs.Common.{◌≡◌, ◌∙◌, ℕ, ◌+◌, ◌<◌, List, [], ◌∷◌, ◌++◌, length, sum_by, Some, ap, sym, arith, append_assoc, append-nil, length-append, refl}
use Rattle.std.proofs.lemmas.List.Elements.{All-append, All-nil, All-pop}
use Rattle.std.proofs.lemmas.List.Sums.{sum_by_push}
use mathlib.Core.List.{IsPrefix}
use Rattle.gu_terms.specs.declared.entry.Entry.{Entry}
use Rattle.gu_terms.specs.declared.receipt.Receipt.{Receipt}
use Rattle.gu_desk.specs.Audits.{IsReceiptOf}
use Rattle.gu_desk.specs.Seats.{SeatState}
use Rattle.gu_houses.specs.Receipts.{HasReceipts}
use Rattle.gu_houses.proofs.ReceiptLemmas.{receipts_later}
use Rattle.gu_server.specs.Receipts.{AddsReceipts, EndsWith, HaveSeen}

-- no seat's receipts yet
pub no_seat : (opening : ℕ) (seats : List SeatState) (before : List Receipt) → seats ≡ [] → EndsWith opening seats before before
no_seat opening seats before none = record {
  made = [];
  receipts_are = sym (append-nil before);
  count = ap (sum_by (λ (seat : SeatState). seat.entries)) (sym none);
  each = λ history seen. All-nil (λ (r : Receipt). IsReceiptOf history r × (opening < r.number));
}

-- the receipts of one seat more
pub one_seat_more : (opening : ℕ) (seats : List SeatState) (seat : SeatState) (before rs ss : List Receipt)
    → EndsWith opening seats before rs → HasReceipts opening seat ss → EndsWith opening (seats ++ seat ∷ []) before (rs ++ ss)
one_seat_more opening seats seat before rs ss ends also = record {
  made = ends.made ++ ss;
  receipts_are = ap (λ (l : List Receipt). l ++ ss) ends.receipts_are ∙ append_assoc before ends.made ss;
  count = let count = ends.count in let more = also.count in omega (arith, length-append ends.made ss, sum_by_push (λ (s : SeatState). s.entries) seats seat);
  each = λ history seen. let both = All-pop (λ (s : SeatState). IsPrefix s.front history) (seats ++ seat ∷ []) seats (Some seat) refl seen in
      All-append (λ (r : Receipt). IsReceiptOf history r × (opening < r.number)) ends.made ss (ends.each history both.0) (receipts_later opening seat.front history ss both.1 also.each);
}

-- the receipts of a day after those that there were
pub added : (opening : List Entry) (seats : List SeatState) (before after : List Receipt) (history : List Entry)
    → EndsWith (length opening) seats before after → IsPrefix opening history → HaveSeen seats history
    → length history ≡ length opening + sum_by (λ (seat : SeatState). seat.entries) seats → AddsReceipts opening before history after
added opening seats before after history ends begins seen long = record {
  begins = begins;
  made = ends.made;
  receipts_are = ends.receipts_are;
  count = let count = ends.count in omega (arith, long);
  each = ends.each history seen;
}

-- they are as many as the entries, if those before were
pub as_many : (opening : List Entry) (before after : List Receipt) (history : List Entry)
    → AddsReceipts opening before history after → length before ≡ length opening → length after ≡ length history
as_many opening before after history adds were =
    let is = ap (λ (l : List Receipt). length l) adds.receipts_are in
    let count = adds.count in
    omega (arith, length-append before adds.made)
