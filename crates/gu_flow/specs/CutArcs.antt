-- Machinery: the cut, as the keys and offers between the nodes that the last search reached and those that it didn't.
use Rattle.std.specs.Prelude.{◌≡◌, ℕ, ◌<◌, ◌==◌, ◌&&◌, not, nat_lt, Bool, false, List, All, IsTrue, length}
use Rattle.std.specs.List.{list_any}
use Rattle.gu_terms.specs.Cuts.{CutLists}
use Rattle.gu_terms.specs.LimitKeys.{key_eq}
use Rattle.gu_terms.specs.declared.limit_key.LimitKey.{LimitKey}
use Rattle.gu_view.specs.Check.{has_offer, has_room}
use Rattle.gu_view.specs.View.{GroupView}
use Rattle.gu_view.specs.declared.view.Room.{Room}
use Rattle.gu_flow.specs.Ends.{arc_at}
use Rattle.gu_flow.specs.Networks.{offer_at, room_at}
use Rattle.gu_flow.specs.Shares.{agreement_place}
use Rattle.gu_flow.specs.declared.network.Arc.{Arc}

-- an arc leads from a reached node to one that isn't
abbrev pub leads_out : (ℕ → Bool) → Arc → Bool
leads_out reached a = reached a.from && not (reached a.to)

-- the key of the room at an index is cut: its arc leads out, and its capacity is the whole room
abbrev pub cuts_key : (ℕ → Bool) → List Arc → List Room → ℕ → Bool
cuts_key reached arcs rooms place = leads_out reached (arc_at arcs place) && ((arc_at arcs place).capacity == (room_at rooms place).lots)

-- the offers under the agreement with the room at an index are cut: its arc leads out, and its capacity isn't the whole room
abbrev pub cuts_offers : (ℕ → Bool) → List Arc → List Room → ℕ → Bool
cuts_offers reached arcs rooms place =
    leads_out reached (arc_at arcs place) && not ((arc_at arcs place).capacity == (room_at rooms place).lots)

-- no offers are cut for the agreements whose rooms come before an index
abbrev pub AreNoOffersCut : (ℕ → Bool) → List Arc → List Room → ℕ → Type 0
AreNoOffersCut reached arcs rooms before = (k : ℕ) → k < before → cuts_offers reached arcs rooms k ≡ false

-- among this number of names, the members are exactly those that are cut and come before an index, and each member is known
pub record AreCut {X : Type 0} (eq : X → X → Bool) (is_known : X → Bool) (name : ℕ → X)
    (cuts : ℕ → Bool) (names : ℕ) (members : List X) (before : ℕ) : Type 0 where
  pub exact : (k : ℕ) → k < names → list_any (λ x. eq x (name k)) members ≡ (nat_lt k before && cuts k)
  pub known : All (λ x. IsTrue (is_known x)) members

-- this holds for the keys of the rooms, and for the numbers of the offers
abbrev pub AreKeysCut : GroupView → (ℕ → Bool) → List Arc → List LimitKey → ℕ → Type 0
AreKeysCut view reached arcs =
    AreCut key_eq (has_room view.rooms) (λ k. (room_at view.rooms k).key) (cuts_key reached arcs view.rooms) (length view.rooms)

abbrev pub AreOffersCut : GroupView → (ℕ → Bool) → List Arc → List ℕ → ℕ → Type 0
AreOffersCut view reached arcs =
    AreCut (λ m n. m == n) (has_offer view.offers) (λ i. (offer_at view.offers i).number)
    (λ i. cuts_offers reached arcs view.rooms (agreement_place view.rooms (offer_at view.offers i))) (length view.offers)

-- the cut has exactly the keys and the offers that are cut
pub record IsCutBy (view : GroupView) (reached : ℕ → Bool) (arcs : List Arc) (cut : CutLists) : Type 0 where
  pub keys : AreKeysCut view reached arcs cut.keys (length view.rooms)
  pub offers : AreOffersCut view reached arcs cut.offers (length view.offers)
