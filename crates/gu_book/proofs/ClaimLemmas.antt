-- Claims answered from the totals, and truncated histories.
use Rattle.gu_book.proofs.Words.{◌≡◌, ℕ, Bool, true, false, List, [], ◌∷◌, Option, Some, None, refl, ◌∙◌, nat_lt, ◌==◌, ap, zero, suc, arith, inl, inr, ◌++◌, length, take, cases_Bool, find, option_map, option_map_or, Entry, Offer, Refusal, LimitReached, OfferClosed, Tables, Row, left_in, row_at, State, claim_tests, refusal_in, room_tests, path_after, room_first, short_key, some_lots}
use Rattle.std.proofs.Math.Seq.{take-append_seam}
use Rattle.std.proofs.lemmas.Bool.Decides.{Decides-eqb}

-- for an offer with lots left, a claim is refused for the first key with less room
pub claim_refused : (reference : Tables) (state : State) (n : ℕ) → (left_in state.offers n == 0) ≡ false
    → refusal_in (claim_tests reference state n) ≡ option_map LimitReached (short_key reference state n (left_in state.offers n))
claim_refused reference state n some = first (left_in state.offers n == 0) some ∙ rooms (row_at state.offers n)
  where
    left : ℕ
    left = left_in state.offers n

    tests : Option Row → List (Bool × Refusal)
    tests found = option_map_or (λ (row : Row). room_tests (state.room row.offer.group) left (path_after reference row.offer)) found []

    first : (b : Bool) → b ≡ false → refusal_in ((b, OfferClosed) ∷ tests (row_at state.offers n)) ≡ refusal_in (tests (row_at state.offers n))
    first false e = refl
    first true e = cc

    rooms : (found : Option Row)
        → refusal_in (tests found) ≡ option_map LimitReached (option_map_or (λ (row : Row). find (λ key. nat_lt (state.room row.offer.group key) left) (path_after reference row.offer)) found None)
    rooms None = refl
    rooms (Some row) = room_first (state.room row.offer.group) left (path_after reference row.offer)

-- the first such key of an offer that is found, from its own path
pub short_key-of : (reference : Tables) (state : State) (n lots : ℕ) (offer : Offer) → Some offer ≡ option_map (λ (row : Row). row.offer) (row_at state.offers n)
    → find (λ key. nat_lt (state.room offer.group key) lots) (path_after reference offer) ≡ short_key reference state n lots
short_key-of reference state n lots offer shown = by (row_at state.offers n) shown
  where
    by : (found : Option Row) → Some offer ≡ option_map (λ (row : Row). row.offer) found
        → find (λ key. nat_lt (state.room offer.group key) lots) (path_after reference offer)
        ≡ option_map_or (λ (row : Row). find (λ key. nat_lt (state.room row.offer.group key) lots) (path_after reference row.offer)) found None
    by None e = cc
    by (Some row) e = let one : offer ≡ row.offer = cc in ap (λ (o : Offer). find (λ key. nat_lt (state.room o.group key) lots) (path_after reference o)) one

-- if there are lots, they are these and not 0
pub lots_are : (n lots : ℕ) → Some lots ≡ some_lots n → (lots ≡ n) × ((n == 0) ≡ false)
lots_are zero lots e = cc
lots_are (suc n) lots e =
    let same : lots ≡ suc n = cc in (
      same,
      elim (cases_Bool (suc n == 0)) [
        | inl hit ↦ let none : suc n ≡ 0 = (Decides-eqb (suc n) 0).0 hit in absurd (omega (arith, none))
        | inr miss ↦ miss
      ],
    )

-- a history truncated to what it was
pub truncated : (history : List Entry) (entry : Entry) (count : ℕ) (pushed cut : List Entry) → count ≡ length history → pushed ≡ history ++ entry ∷ [] → cut ≡ take count pushed → cut ≡ history
truncated history entry count pushed cut counted added is =
    is ∙ ap (λ (n : ℕ). take n pushed) counted ∙ ap (take (length history)) added ∙ take-append_seam history (entry ∷ [])
