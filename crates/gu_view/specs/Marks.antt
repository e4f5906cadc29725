-- Machinery: takes, keys and offers by index.
use Rattle.std.specs.Prelude.{◌≡◌, ℕ, ◌==◌, Bool, List, [], ◌∷◌, map, if◌then◌else◌}
use Rattle.gu_terms.specs.declared.takes.Take.{Take}
use Rattle.gu_terms.specs.Cuts.{CutLists, has_number}
use Rattle.gu_terms.specs.LimitKeys.{has_key}
use Rattle.gu_view.specs.View.{GroupView}
use Rattle.gu_view.specs.declared.view.ViewOffer.{ViewOffer}

-- the lots of the first take if it is from this offer, else 0, and the takes that remain
abbrev pub split_of : List Take → ℕ → ℕ × List Take
split_of [] offer = (0, [])
split_of (t ∷ rest) offer = if t.offer == offer then (t.lots, rest) else (0, t ∷ rest)

-- these are the lots taken from each offer, in the order of the offers
abbrev pub AreLots : List ViewOffer → List ℕ → (ℕ → ℕ) → Type 0
AreLots offers taken lots = taken ≡ map (λ o. lots o.number) offers

-- these are the results of a test on each element
abbrev pub AreMarks : {X : Type 0} → List X → List Bool → (X → Bool) → Type 0
AreMarks xs marks test = marks ≡ map test xs

-- these are the lots by offer, and marks for the rooms and offers that a cut names
pub record IsMarked (view : GroupView) (taken : List ℕ) (keys numbers : List Bool) (lots : ℕ → ℕ) (cut : CutLists) : Type 0 where
  pub taken_are : AreLots view.offers taken lots
  pub keys_are : AreMarks view.rooms keys (λ r. has_key cut.keys r.key)
  pub numbers_are : AreMarks view.offers numbers (λ o. has_number cut.offers o.number)
