-- Machinery: a set of offers, with one bit for each.
use Rattle.std.specs.Prelude.{◌≡◌, ℕ, Bool, ◌==◌, ◌/◌, ◌%◌, List, get_or, nat_eq}
use Rattle.std.specs.Int.{bit_at}
use Rattle.std.specs.List.{IsDistinct}
use Rattle.gu_terms.specs.Cuts.{has_number}

-- an offer's bit is set, in words of 64 bits
abbrev pub is_marked : List ℕ → ℕ → Bool
is_marked words offer = bit_at (get_or words (offer / 64) 0) (offer % 64) == 1

-- exactly these offers are marked, and none of them occurs twice
pub record MarksOffers (words offers : List ℕ) : Type 0 where
  pub marked : (offer : ℕ) → is_marked words offer ≡ has_number offers offer
  pub distinct : IsDistinct nat_eq offers
