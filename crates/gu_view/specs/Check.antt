-- The check of takes and a cut against a view: which fault is reported first.
use Rattle.std.specs.Prelude.{◌≡◌, ℕ, ◌==◌, ◌&&◌, not, nat_lt, Bool, List, [], ◌∷◌, Option, Some, None, Result, Ok, Err, All, IsTrue, find, if◌then◌else◌}
use Rattle.std.specs.List.{list_any}
use Rattle.std.specs.Option.{option_map}
use Rattle.gu_terms.specs.Cuts.{CutLists}
use Rattle.gu_terms.specs.LimitKeys.{key_eq}
use Rattle.gu_terms.specs.Takes.{lots_of}
use Rattle.gu_terms.specs.declared.limit_key.LimitKey.{LimitKey}
use Rattle.gu_terms.specs.declared.takes.Take.{Take}
use Rattle.gu_view.specs.Cut.{Covers, is_covered, room_of}
use Rattle.gu_view.specs.Making.{same_agreement}
use Rattle.gu_view.specs.Takes.{IsAdmissible, IsOldestFirst, lots_under, total}
use Rattle.gu_view.specs.View.{GroupView}
use Rattle.gu_view.specs.declared.error.CutFault.{CutFault}
use Rattle.gu_view.specs.declared.error.CutFault.TheVariants.{OverOffer, OverLimit, Uncovered, RoomDiffers, Unknown, NotOldestFirst}
use Rattle.gu_view.specs.declared.error.Unknown.TheVariants.{Key, Offer as UnknownOffer}
use Rattle.gu_view.specs.declared.view.ViewOffer.{ViewOffer}
use Rattle.gu_view.specs.declared.view.Room.{Room}

-- an offer of the view has this number
abbrev pub has_offer : List ViewOffer → ℕ → Bool
has_offer offers number = list_any (λ o. o.number == number) offers

-- a room of the view has this key
abbrev pub has_room : List Room → LimitKey → Bool
has_room rooms k = list_any (λ r. key_eq r.key k) rooms

-- the first take from an offer that the view lacks
abbrev pub unknown_take : List ViewOffer → List Take → Option CutFault
unknown_take offers takes = option_map (λ (t : Take). Unknown (UnknownOffer t.offer)) (find (λ t. not (has_offer offers t.offer)) takes)

-- the first key of the cut that the view lacks
abbrev pub unknown_key : List Room → List LimitKey → Option CutFault
unknown_key rooms keys = option_map (λ (k : LimitKey). Unknown (Key k)) (find (λ k. not (has_room rooms k)) keys)

-- the first offer of the cut that the view lacks
abbrev pub unknown_offer : List ViewOffer → List ℕ → Option CutFault
unknown_offer offers numbers = option_map (λ (n : ℕ). Unknown (UnknownOffer n)) (find (λ n. not (has_offer offers n)) numbers)

-- the first offer from which more is taken than it has
abbrev pub over_offer : List ViewOffer → (ℕ → ℕ) → Option CutFault
over_offer offers lots = option_map (λ (o : ViewOffer). OverOffer o.number) (find (λ o. nat_lt o.lots (lots o.number)) offers)

-- the first key under which more is taken than its room
abbrev pub over_limit : List ViewOffer → List Room → (ℕ → ℕ) → Option CutFault
over_limit offers rooms lots = option_map (λ (r : Room). OverLimit r.key) (find (λ r. nat_lt r.lots (lots_under offers r.key lots)) rooms)

-- an older offer under the same agreement isn't full
abbrev pub has_older_rest : List ViewOffer → (ℕ → ℕ) → ViewOffer → Bool
has_older_rest offers lots o =
    list_any (λ older. nat_lt older.number o.number && (same_agreement older o && nat_lt (lots older.number) older.lots)) offers

-- the first offer that takes lots while an older one under its agreement isn't full
abbrev pub not_oldest_first : List ViewOffer → (ℕ → ℕ) → Option CutFault
not_oldest_first offers lots =
    option_map (λ (o : ViewOffer). NotOldestFirst o.number) (find (λ o. nat_lt 0 (lots o.number) && has_older_rest offers lots o) offers)

-- the first offer that neither is in the cut nor has a key in it
abbrev pub uncovered : List ViewOffer → CutLists → Option CutFault
uncovered offers cut = option_map (λ (o : ViewOffer). Uncovered o.number) (find (λ o. not (is_covered cut o)) offers)

-- the cut's room differs from the lots taken
abbrev pub room_differs : GroupView → (ℕ → ℕ) → CutLists → Option CutFault
room_differs view lots cut = if total view.offers lots == room_of view cut then None else Some RoomDiffers

-- the first fault among these, if there is one
abbrev pub first_found : List (Option CutFault) → Option CutFault
first_found [] = None
first_found (None ∷ others) = first_found others
first_found (Some fault ∷ others) = Some fault

-- this fault, or else the answer that follows
abbrev pub unless : Option CutFault → Result ℕ CutFault → Result ℕ CutFault
unless None answer = answer
unless (Some fault) answer = Err fault

-- the first fault if takes and cut name only what the view has, or else the lots taken
abbrev pub verdict_of_known : GroupView → (ℕ → ℕ) → CutLists → Result ℕ CutFault
verdict_of_known view lots cut =
    unless
    (first_found (
    over_offer view.offers lots
    ∷ over_limit view.offers view.rooms lots
    ∷ not_oldest_first view.offers lots
    ∷ uncovered view.offers cut
    ∷ room_differs view lots cut
    ∷ []))
    (Ok (total view.offers lots))

-- the first fault, or else the lots taken: what takes and cut name is tested first
abbrev pub verdict : GroupView → List Take → CutLists → Result ℕ CutFault
verdict view takes cut =
    unless
    (first_found (unknown_take view.offers takes ∷ unknown_key view.rooms cut.keys ∷ unknown_offer view.offers cut.offers ∷ []))
    (verdict_of_known view (lots_of takes) cut)

-- takes and cut name only what the view has, the takes are admissible and oldest first, the cut covers, and its room equals the lots taken
pub record IsRight (view : GroupView) (takes : List Take) (cut : CutLists) (lots : ℕ) : Type 0 where
  pub takes_known : All (λ t. IsTrue (has_offer view.offers t.offer)) takes
  pub keys_known : All (λ k. IsTrue (has_room view.rooms k)) cut.keys
  pub offers_known : All (λ n. IsTrue (has_offer view.offers n)) cut.offers
  pub admissible : IsAdmissible view (lots_of takes)
  pub oldest_first : IsOldestFirst view (lots_of takes)
  pub covers : Covers view cut
  pub taken : total view.offers (lots_of takes) ≡ lots
  pub room : room_of view cut ≡ lots
