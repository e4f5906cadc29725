-- Machinery: the network of a view: each key's room is an arc, on the ways of the offers with that key.
use Rattle.std.specs.Prelude.{◌≡◌, ℕ, ◌+◌, ◌<◌, ◌==◌, min, true, List, [], length, map, slice_index_or}
use Rattle.std.specs.List.{list_any}
use Rattle.gu_terms.specs.declared.limit_key.LimitKey.{LimitKey}
use Rattle.gu_terms.specs.declared.limit_key.LimitKey.TheVariants.{Exec, Agr}
use Rattle.gu_view.specs.Paths.{step_of}
use Rattle.gu_view.specs.Takes.{lots_with}
use Rattle.gu_view.specs.View.{GroupView, place_of}
use Rattle.gu_view.specs.declared.view.ViewOffer.{ViewOffer}
use Rattle.gu_view.specs.declared.view.Room.{Room}
use Rattle.gu_flow.specs.Ends.{arc_at}
use Rattle.gu_flow.specs.Layouts.{node_at}
use Rattle.gu_flow.specs.declared.network.Arc.{Arc}

-- the room at an index
abbrev pub no_room : Room
no_room = record { key = Exec (record { name = [] }); lots = 0 }

abbrev pub room_at : List Room → ℕ → Room
room_at rooms place = slice_index_or rooms place no_room

-- the offer at an index
abbrev pub no_offer : ViewOffer
no_offer = record { number = 0; lots = 0; agreement = record { name = [] }; path = [] }

abbrev pub offer_at : List ViewOffer → ℕ → ViewOffer
offer_at offers place = slice_index_or offers place no_offer

-- the way of an offer: the indexes of its path's keys among the rooms
abbrev pub way_of : List Room → ViewOffer → List ℕ
way_of rooms o = map (place_of rooms) o.path

-- a way passes a place
abbrev pub GoesBy : List ℕ → ℕ → Type 0
GoesBy way place = list_any (λ p. p == place) way ≡ true

-- the capacity of a key's arc: its room, but for an agreement no more than its offers have
abbrev pub capacity_of : List ViewOffer → ℕ → LimitKey → ℕ
capacity_of offers lots (Agr agreement) = min lots (lots_with offers (Agr agreement))
capacity_of offers lots _ = lots

-- an offer of the view
pub record IsOfferOf (view : GroupView) (o : ViewOffer) : Type 0 where
  pub place : ℕ
  pub within : place < length view.offers
  pub is : o ≡ offer_at view.offers place

-- the arc of the room at an index, as laid out by the way of an offer that passes it
pub record IsArcOf (view : GroupView) (place : ℕ) (a : Arc) : Type 0 where
  pub offer : ViewOffer
  pub known : IsOfferOf view offer
  pub goes_by : GoesBy (way_of view.rooms offer) place
  pub from : a.from ≡ node_at (way_of view.rooms offer) (step_of (room_at view.rooms place).key)
  pub to : a.to ≡ node_at (way_of view.rooms offer) (step_of (room_at view.rooms place).key + 1)
  pub capacity : a.capacity ≡ capacity_of view.offers (room_at view.rooms place).lots (room_at view.rooms place).key

-- there is an arc for each room
pub record AreArcs (view : GroupView) (arcs : List Arc) : Type 0 where
  pub all : length arcs ≡ length view.rooms
  pub each : (place : ℕ) → place < length arcs → IsArcOf view place (arc_at arcs place)
