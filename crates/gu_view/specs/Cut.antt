-- Cuts of a view.
use Rattle.std.specs.Prelude.{ℕ, ◌+◌, ◌≤◌, ◌||◌, Bool, IsTrue, if◌then◌else◌, All, sum_by}
use Rattle.std.specs.List.{list_any}
use Rattle.gu_terms.specs.Cuts.{CutLists, has_number}
use Rattle.gu_terms.specs.LimitKeys.{has_key}
use Rattle.gu_view.specs.declared.view.ViewOffer.{ViewOffer}
use Rattle.gu_view.specs.View.{GroupView}

-- an offer is in the cut, or a key of its path is
abbrev pub is_covered : CutLists → ViewOffer → Bool
is_covered cut o = has_number cut.offers o.number || list_any (has_key cut.keys) o.path

-- each offer is in the cut or has a key of its path in it
abbrev pub Covers : GroupView → CutLists → Type 0
Covers view cut = All (λ o. IsTrue (is_covered cut o)) view.offers

-- the total room of the cut's keys plus the total lots of its offers, each counted once
abbrev pub room_of : GroupView → CutLists → ℕ
room_of view cut =
    sum_by (λ r. if has_key cut.keys r.key then r.lots else 0) view.rooms
    + sum_by (λ o. if has_number cut.offers o.number then o.lots else 0) view.offers

-- it covers, and no cut that covers has less room
pub record IsLeastCut (view : GroupView) (cut : CutLists) : Type 0 where
  pub covers : Covers view cut
  pub least : (others : CutLists) → Covers view others → room_of view cut ≤ room_of view others
