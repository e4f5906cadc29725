-- The data that notices are made from, and the recipients of entries, as a book stores them.
use Rattle.gu_book.proofs.Words.{◌≡◌, ◌≤◌, ℕ, zero, suc, ◌+◌, ◌++◌, List, [], ◌∷◌, length, Some, refl, ap, ◌∙◌, subst, option_map, option_to_list, slice_get, Entry, Id, Offer, Report, Tables, with_match, Row, row_at, Register, register_of, lines_by, offers_of, standing_from, standing_of, open_day, report_on, reports_of, offer_at, reports_of-push, offers_of-push, AreRecipients, Grows, FirmFilter, recipients-later, recipients-longer, IsBeside, IsKeptLegal, IsKeptWhole, register_kept, AreVersions, Totals, Versions}

-- the offer with a number is in its row
offer_at-is : (history : List Entry) (n : ℕ) → option_map (λ (r : Row). r.offer) (row_at (standing_of history) n) ≡ offer_at history n
offer_at-is history zero = refl
offer_at-is history (suc place) = go 1 (offers_of history) place
  where
    go : (m : ℕ) (offers : List Offer) (at : ℕ) → option_map (λ (r : Row). r.offer) (slice_get (standing_from history m offers) at) ≡ slice_get offers at
    go m [] at = refl
    go m (offer ∷ offers) zero = refl
    go m (offer ∷ offers) (suc at) = go (m + 1) offers at

-- notices made from the totals are those made from the history
pub register-is : (reference : Tables) (history : List Entry) (totals : Totals) → IsBeside reference history totals → register_kept reference totals ≡ register_of (record { reference = reference; history = history })
register-is reference history totals beside =
    λ i. record {
      reference = reference;
      reports = beside.reports i;
      offer = λ n. (ap (λ (rows : List Row). option_map (λ (r : Row). r.offer) (row_at rows n)) beside.offers ∙ offer_at-is history n) i;
    }

-- an element at an index stays there
stays : {X : Type 0} (xs ys : List X) (place : ℕ) (x : X) → slice_get xs place ≡ Some x → slice_get (xs ++ ys) place ≡ Some x
stays [] ys place x is = cc
stays (first ∷ xs) ys zero x is = is
stays (first ∷ xs) ys (suc place) x is = stays xs ys place x is

-- an offer is unchanged
offer-stays : (history : List Entry) (entry : Entry) (n : ℕ) (o : Offer) → offer_at history n ≡ Some o → offer_at (history ++ entry ∷ []) n ≡ Some o
offer-stays history entry zero o is = cc
offer-stays history entry (suc place) o is = ap (λ (os : List Offer). slice_get os place) (offers_of-push history entry) ∙ stays (offers_of history) (lines_by entry) place o is

-- one more entry keeps the data that notices are made from, and only adds to it
grows-by : (reference : Tables) (history : List Entry) (entry : Entry) → ((id : Id) → length (with_match id (reports_of (history ++ entry ∷ []))) ≤ 2)
    → Grows (register_of (record { reference = reference; history = history })) (register_of (record { reference = reference; history = history ++ entry ∷ [] }))
grows-by reference history entry few = record {
  reference = refl;
  reports = (option_to_list (report_on (open_day history) entry), reports_of-push history entry);
  sides = few;
  offers = offer-stays history entry;
}

-- the stored state after one more entry
pub whole-more : (reference : Tables) (history : List Entry) (entry : Entry) (totals : Totals) (versions : Versions) (recipients : List FirmFilter)
    → AreRecipients (register_of (record { reference = reference; history = history })) history recipients → IsKeptLegal reference (history ++ entry ∷ []) totals versions
    → ((id : Id) → length (with_match id totals.trades) ≤ 2) → IsKeptWhole reference (history ++ entry ∷ []) totals versions recipients
whole-more reference history entry totals versions recipients are kept few =
    let before : Register = register_of (record { reference = reference; history = history }) in
    let after : Register = register_of (record { reference = reference; history = history ++ entry ∷ [] }) in
    let sides = subst (λ (rs : List Report). (id : Id) → length (with_match id rs) ≤ 2) kept.kept.beside.reports few in
    record { entries = kept; told = recipients-longer after history (entry ∷ []) recipients (recipients-later before after (grows-by reference history entry sides) history recipients are) }

-- the same, with recomputed versions
pub legal-counted : (reference : Tables) (history : List Entry) (totals : Totals) (before after : Versions) → IsKeptLegal reference history totals before → AreVersions history after
    → IsKeptLegal reference history totals after
legal-counted reference history totals before after kept counted = record { legal = kept.legal; kept = kept.kept; counted = counted }
