-- Machinery: how offers are stored: by number, with the numbers of each group's open offers.
use Rattle.std.specs.Prelude.{◌≡◌, ℕ, ◌≤◌, List, map, length, slice_get, slice_set, Some}
use Rattle.std.specs.List.{AllByRecursion}
use Rattle.gu_terms.specs.declared.group.Group.{Group}
use Rattle.gu_offers.specs.Given.{GivenUp}
use Rattle.gu_offers.specs.declared.offers.Offers.TheInside.{Inside}
use Rattle.gu_offers.specs.Given.{row_of}
use Rattle.gu_offers.specs.Groups.{numbers_in}
use Rattle.gu_offers.specs.Rows.{IsSound, Row, open_numbers}

-- the offers, in the order of their numbers
abbrev pub rows_of : Inside → List Row
rows_of kept = map (row_of kept.day) kept.rows

-- the offers are sound, none was moved after this day, there are at most 16,000,000, and the table of open numbers is right
pub record IsKept (kept : Inside) : Type 0 where
  pub sound : AllByRecursion IsSound (rows_of kept)
  pub days : AllByRecursion (λ (g : GivenUp). g.moved_on ≤ kept.day) kept.rows
  pub few : length kept.rows ≤ 16000000
  pub numbers : (group : Group) → numbers_in kept.groups group ≡ open_numbers (rows_of kept) group

-- one stored offer was changed in this way
pub record IsWritten (old new : List GivenUp) (place day : ℕ) (change : Row → Row) : Type 0 where
  pub was : GivenUp
  pub now : GivenUp
  pub there : slice_get old place ≡ Some was
  pub written : new ≡ slice_set old place now
  pub row : row_of day now ≡ change (row_of day was)
  pub on : was.moved_on ≤ day → now.moved_on ≤ day

-- the offer at an index, if there is one, is sound on this day
abbrev pub IsSoundAt : List GivenUp → ℕ → ℕ → Type 0
IsSoundAt items place day = (g : GivenUp) → slice_get items place ≡ Some g → IsSound (row_of day g)
