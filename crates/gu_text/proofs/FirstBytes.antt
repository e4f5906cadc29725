-- The first byte that passes a test, found by a loop or a search.
use Rattle.std.proofs.Common.{◌≡◌, inl, inr, ◌+◌, ◌<◌, ℕ, Bool, true, false, List, Option, None, Some, length, position, slice_index_or, refl, sym, ap, ◌∙◌, arith, nat_lt, nat_eq, cond, not, map, replicate, ◌≤◌, ◌%◌, ◌^◌, w8, w64}
use lib.Lanes.{chunk, zip2, mask_l, top}
use Rattle.std.specs.Int.{trailing_zeros}
use Rattle.std.specs.List.{position_or_len, prefix_len}
use Rattle.std.proofs.lemmas.Simd.{bitmask_splat, first_set_mask_l, length-chunk}
use Rattle.std.proofs.lemmas.Bool.{cases_lt, cond-true, cond-false, le-ltb, lt-ltb}
use Rattle.std.proofs.lemmas.List.Sums.{position_or_len_is}
use Rattle.memchr.specs.Find.{IsFirstByte}

-- the index of the lowest set bit, or 8
abbrev lowest_bit : ℕ → ℕ
lowest_bit mask = cond (nat_eq mask 0) 8 (trailing_zeros w64 mask)

-- an index that passes is the first if none before it passes
pub first_place : (p : ℕ → Bool) (bytes : List ℕ) (place : ℕ) → ((k : ℕ) → k < place → p (slice_index_or bytes k 0) ≡ false) → place < length bytes → p (slice_index_or bytes place 0) ≡ true → Some place ≡ position p bytes
first_place p bytes place before within here =
    let at : position_or_len p bytes ≡ place = position_or_len_is p bytes place 0 (omega (arith, within)) before (λ inside. here) in
    ap Some (sym at) ∙ sym (cond-true (nat_lt (position_or_len p bytes) (length bytes)) (Some (position_or_len p bytes)) None (lt-ltb _ _ (omega (arith, at, within))))

-- there is no index if none passes
pub no_place : (p : ℕ → Bool) (bytes : List ℕ) → ((k : ℕ) → k < length bytes → p (slice_index_or bytes k 0) ≡ false) → None ≡ position p bytes
no_place p bytes nowhere =
    let end : position_or_len p bytes ≡ length bytes = position_or_len_is p bytes (length bytes) 0 (omega arith) nowhere (λ within. absurd (omega (arith, within))) in
    sym (cond-false (nat_lt (position_or_len p bytes) (length bytes)) (Some (position_or_len p bytes)) None (le-ltb _ _ (omega (arith, end))))

-- none passes before an end if none does up to some place, nor from there on
pub none_before : (p : ℕ → Bool) (bytes : List ℕ) (place end : ℕ) → ((k : ℕ) → k < place → p (slice_index_or bytes k 0) ≡ false)
    → ((k : ℕ) → place ≤ k → k < end → p (slice_index_or bytes k 0) ≡ false) → (k : ℕ) → k < end → p (slice_index_or bytes k 0) ≡ false
none_before p bytes place end before behind k under = elim (cases_lt k place) [ inl low ↦ before k low | inr high ↦ behind k high under ]

fails : (b : Bool) → (b ≡ true → ⊥) → b ≡ false
fails true h = absurd (h refl)
fails false h = refl

-- it is at the first index that passes
pub place_found : (p : ℕ → Bool) (bytes : List ℕ) (found : Option ℕ) → IsFirstByte p bytes found → found ≡ position p bytes
place_found p bytes None nowhere = no_place p bytes (λ k within. fails _ (nowhere k (omega arith) within))
place_found p bytes (Some place) h = first_place p bytes place (λ k before. fails _ (h.0.before k (omega arith) before)) h.0.high h.1

-- the lowest bit of a mask that marks one byte among the eight from a place on
pub run_counted : (byte : ℕ) (bytes : List ℕ) (place run : ℕ) → place + 8 ≤ length bytes
    → run ≡ lowest_bit (mask_l (map (top 7) (zip2 (λ a b. cond (nat_eq a b) 255 0) (chunk place 8 bytes) (replicate 8 byte))) % 2 ^ 64)
    → run ≡ prefix_len (λ b. not (nat_eq b byte)) (chunk place 8 bytes)
run_counted byte bytes place run room is =
    let long = length-chunk place 8 bytes room in
    is ∙ ap lowest_bit (bitmask_splat w8 nat_eq (chunk place 8 bytes) 8 byte long (omega arith)) ∙ first_set_mask_l (λ b. nat_eq b byte) (chunk place 8 bytes) 8 long (omega arith)
