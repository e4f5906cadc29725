-- Receipts made from their numbers and their entries.
use Rattle.gu_desk.proofs.Words.{◌≡◌, ℕ, suc, zero, List, [], ◌∷◌, ◌++◌, length, get_or, Some, refl, ap, arith, slice_get, Entry, Receipt}
use Rattle.gu_desk.specs.PackedReceipts.{receipts_of}

-- as many as there are numbers
pub as_many_receipts : (numbers : List ℕ) (entries : List Entry) → length numbers ≡ length entries → length (receipts_of numbers entries) ≡ length numbers
as_many_receipts [] entries same = refl
as_many_receipts (n ∷ numbers) [] same = absurd (omega arith)
as_many_receipts (n ∷ numbers) (e ∷ entries) same = ap suc (as_many_receipts numbers entries (omega arith))

-- one more receipt
pub one_receipt_more : (numbers : List ℕ) (entries : List Entry) (n : ℕ) (e : Entry) → length numbers ≡ length entries
    → receipts_of (numbers ++ n ∷ []) (entries ++ e ∷ []) ≡ receipts_of numbers entries ++ record { number = n; entry = e } ∷ []
one_receipt_more [] [] n e same = refl
one_receipt_more [] (f ∷ entries) n e same = absurd (omega arith)
one_receipt_more (m ∷ numbers) [] n e same = absurd (omega arith)
one_receipt_more (m ∷ numbers) (f ∷ entries) n e same =
    ap (λ (rs : List Receipt). record { number = m; entry = f } ∷ rs) (one_receipt_more numbers entries n e (omega arith))

-- the receipt at an index
pub receipt_at : (numbers : List ℕ) (entries : List Entry) (k : ℕ) (e : Entry) → length numbers ≡ length entries → slice_get entries k ≡ Some e
    → slice_get (receipts_of numbers entries) k ≡ Some (record { number = get_or numbers k 0; entry = e })
receipt_at [] [] k e same at = cc
receipt_at [] (f ∷ entries) k e same at = absurd (omega arith)
receipt_at (n ∷ numbers) [] k e same at = absurd (omega arith)
receipt_at (n ∷ numbers) (f ∷ entries) zero e same at = let is : f ≡ e = cc in ap (λ (x : Entry). Some (record { number = n; entry = x })) is
receipt_at (n ∷ numbers) (f ∷ entries) (suc k) e same at = receipt_at numbers entries k e (omega arith) at
