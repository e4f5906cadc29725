-- The lots that a sweep takes from offers.
use Rattle.std.specs.Prelude.{◌≡◌, ℕ, ◌<◌, ◌≤◌, ◌==◌, ◌++◌, ◌∷◌, nat_lt, List, AllPairs, Any, filter, length, unwrap_or}
use Rattle.std.specs.List.{find, AllWithin}
use Rattle.std.specs.Option.{option_map}
use Rattle.gu_terms.specs.declared.takes.Take.{Take}

-- offers ascend, so each is named at most once
abbrev pub IsAscending : List Take → Type 0
IsAscending takes = AllPairs (λ a b. a.offer < b.offer) takes

-- the takes name this offer
abbrev pub IsNamed : List Take → ℕ → Type 0
IsNamed takes offer = Any (λ t. t.offer ≡ offer) takes

-- the first `place` takes are from earlier offers, and the rest are from this offer or later ones
pub record IsPlace (takes : List Take) (place offer : ℕ) : Type 0 where
  pub within : place ≤ length takes
  pub before : AllWithin (λ t. t.offer < offer) takes 0 place
  pub after : AllWithin (λ t. offer ≤ t.offer) takes place (length takes)

-- the lots taken from an offer; 0 if it isn't named
abbrev pub lots_of : List Take → ℕ → ℕ
lots_of takes offer = unwrap_or (option_map (λ (t : Take). t.lots) (find (λ t. t.offer == offer) takes)) 0

-- the takes from earlier offers, then a new take, then the takes from later offers
abbrev pub with_take : List Take → Take → List Take
with_take takes t = filter (λ s. nat_lt s.offer t.offer) takes ++ t ∷ filter (λ s. nat_lt t.offer s.offer) takes
