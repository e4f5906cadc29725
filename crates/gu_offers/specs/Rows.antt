-- Offers: what was given up, in the order of offer numbers.
use Rattle.std.specs.Prelude.{ℕ, zero, suc, ◌+◌, ◌-◌, Bool, ◌&&◌, nat_lt, ◌≤◌, List, [], ◌∷◌, length, sum_by, Option, None, slice_get, if◌then◌else◌}
use Rattle.std.specs.List.{filter_map}
use Rattle.std.specs.Option.{option_map, option_map_or}
use Rattle.gu_terms.specs.declared.firm.FirmId.{FirmId}
use Rattle.gu_terms.specs.declared.group.Group.{Group}
use Rattle.gu_terms.specs.declared.id.Id.{Id}
use Rattle.gu_terms.specs.declared.offer.Offer.{Offer}
use Rattle.gu_terms.specs.Numbers.{IsLots}
use Rattle.gu_terms.specs.Same.{same_firm, same_group, same_id}
use Rattle.gu_offers.specs.declared.open_offer.OpenOffer.{OpenOffer}

-- an offer: what was given up, the lots of it that were moved, those of them moved since the day was opened, and whether it was closed
pub record Row : Type 0 where
  pub offer : Offer
  pub moved : ℕ
  pub today : ℕ
  pub is_shut : Bool

-- the offer with this number; the first has number 1, and none has number 0
abbrev pub row_at : List Row → ℕ → Option Row
row_at rows zero = None
row_at rows (suc place) = slice_get rows place

-- the lots left of an offer: 0 if it was closed, else its own lots less those moved
abbrev pub left_of : Row → ℕ
left_of r = if r.is_shut then 0 else r.offer.lots - r.moved

-- the lots left of the offer with this number; 0 if there is none
abbrev pub left_in : List Row → ℕ → ℕ
left_in rows number = option_map_or left_of (row_at rows number) 0

-- the lots of the offer with this number that were moved since the day was opened; 0 if there is none
abbrev pub today_in : List Row → ℕ → ℕ
today_in rows number = option_map_or (λ r. r.today) (row_at rows number) 0

-- an offer is open: lots are left of it
abbrev pub is_open : Row → Bool
is_open r = nat_lt 0 (left_of r)

-- an offer is open and in this product group
abbrev pub is_open_in : Group → Row → Bool
is_open_in group r = same_group r.offer.group group && is_open r

-- the numbers of a product group's open offers among these, if the first of these has this number
abbrev pub numbers_from : ℕ → List Row → Group → List ℕ
numbers_from number [] group = []
numbers_from number (r ∷ rows) group = if is_open_in group r then number ∷ numbers_from (number + 1) rows group else numbers_from (number + 1) rows group

-- the numbers of a product group's open offers, ascending
abbrev pub open_numbers : List Row → Group → List ℕ
open_numbers rows group = numbers_from 1 rows group

-- the number of open offers in a product group
abbrev pub open_count : List Row → Group → ℕ
open_count rows group = length (open_numbers rows group)

-- the offer with this number and the lots left of it
abbrev pub open_offer_at : List Row → ℕ → Option OpenOffer
open_offer_at rows number = option_map (λ r. record { number = number; offer = r.offer; left = left_of r }) (row_at rows number)

-- a product group's open offers, in the order of their numbers
abbrev pub open_offers : List Row → Group → List OpenOffer
open_offers rows group = filter_map (open_offer_at rows) (open_numbers rows group)

-- the lots of its report that an offer holds: its own, or only those moved if it was closed
abbrev pub counted_of : Row → ℕ
counted_of r = if r.is_shut then r.moved else r.offer.lots

-- an offer gives up this firm's report with this id
abbrev pub is_of_report : FirmId → Id → Row → Bool
is_of_report firm report r = same_firm r.offer.firm firm && same_id r.offer.report report

-- the lots of a report that are held by its offers
abbrev pub counted_under : List Row → FirmId → Id → ℕ
counted_under rows firm report = sum_by (λ r. if is_of_report firm report r then counted_of r else 0) rows

-- the rules of each offer: it has 1 to 1,000,000 lots; no more were moved than it has, and no more today than in all
pub record IsSound (r : Row) : Type 0 where
  pub lots : IsLots r.offer.lots
  pub moved : r.moved ≤ r.offer.lots
  pub today : r.today ≤ r.moved
