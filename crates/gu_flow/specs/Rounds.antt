-- Machinery: an allotment, in which lots are pushed round cycles, and the two searches that find a path for them.
use Rattle.std.specs.Prelude.{◌≡◌, ◌≢◌, ℕ, ◌==◌, ◌+◌, ◌-◌, ◌*◌, ◌<◌, ◌≤◌, if◌then◌else◌, List, length, Bool, true, false, slice_index}
use Rattle.gu_flow.specs.declared.allotment.Allotment.{Allotment}
use Rattle.gu_flow.specs.declared.network.Arc.{Arc}
use Rattle.gu_flow.specs.declared.rounds.TwoWay.{TwoWay}
use Rattle.gu_flow.specs.Ends.{arc_at, near, far, other_end}
use Rattle.gu_flow.specs.Floors.{IsAlike, KeepsFloors, room_out}
use Rattle.gu_flow.specs.Flows.{inflow, outflow, IsFlow}
use Rattle.gu_flow.specs.Searches.{HasPlaces, IsClear, IsSearch}

-- the lots that a search can push over an end: from its node to the other, or, if it goes back, to its node
abbrev pub room_of : List Arc → Allotment → Bool → ℕ → ℕ
room_of arcs a back e = room_out arcs a.floors.items a.flow.items (if back then other_end e else e)

-- the room from an arc's tail is the capacity left, and that from its head is the flow above its floor
pub record AreMeasured (arcs : List Arc) (a : Allotment) (k : ℕ) : Type 0 where
  pub along : slice_index a.rooms.items (2 * k) ≡ (arc_at arcs k).capacity - slice_index a.flow.items k
  pub against : slice_index a.rooms.items (2 * k + 1) ≡ slice_index a.flow.items k - slice_index a.floors.items k

-- an allotment has a room for each end
pub record HasRooms (arcs : List Arc) (a : Allotment) : Type 0 where
  pub size : length a.rooms.items ≡ 2 * length arcs
  pub each : (k : ℕ) → k < length arcs → AreMeasured arcs a k

-- those that it can push within a region
abbrev pub room_inside : List Arc → Allotment → Bool → ℕ → ℕ
room_inside arcs a back e =
    if slice_index a.regions.items (near arcs e) == slice_index a.regions.items (far arcs e) then room_of arcs a back e else 0

-- nothing more can be pushed from the reached nodes to the others in the same region
pub record IsClosedInside (arcs : List Arc) (floors flow regions : List ℕ) (reached : ℕ → Bool) : Type 0 where
  pub each : (e : ℕ) → e < 2 * length arcs → reached (near arcs e) ≡ true → reached (far arcs e) ≡ false
      → slice_index regions (near arcs e) ≡ slice_index regions (far arcs e) → room_out arcs floors flow e ≡ 0

-- lots are moved from one node to another, and all other nodes are balanced as before
pub record IsBrought (arcs : List Arc) (old new : List ℕ) (from to lots : ℕ) : Type 0 where
  pub nodes : (n : ℕ)
      → inflow arcs new n + outflow arcs old n + (if from == n then lots else 0)
      ≡ inflow arcs old n + outflow arcs new n + (if to == n then lots else 0)

-- between two regions, every flow of the same value that keeps the floors carries the same
pub record AreFixed (arcs : List Arc) (floors flow regions : List ℕ) : Type 0 where
  pub each : (others : List ℕ) → IsAlike arcs floors flow others → (k : ℕ) → k < length arcs
      → slice_index regions (arc_at arcs k).from ≢ slice_index regions (arc_at arcs k).to → slice_index others k ≡ slice_index flow k

-- a flow with a floor for each arc and a region for each node
pub record IsAllotment (arcs : List Arc) (nodes : ℕ) (a : Allotment) : Type 0 where
  pub is_flow : IsFlow arcs a.flow.items
  pub keeps : KeepsFloors a.floors.items a.flow.items
  pub rooms : HasRooms arcs a
  pub floors : length a.floors.items ≡ length arcs
  pub regions : length a.regions.items ≡ nodes
  pub fixed : AreFixed arcs a.floors.items a.flow.items a.regions.items

-- a flow that can still be rerouted at will: no arc has a floor, and all nodes are in one region
pub record IsFree (arcs : List Arc) (nodes : ℕ) (a : Allotment) : Type 0 where
  pub is_flow : IsFlow arcs a.flow.items
  pub rooms : HasRooms arcs a
  pub floors : length a.floors.items ≡ length arcs
  pub regions : length a.regions.items ≡ nodes
  pub no_floors : (k : ℕ) → slice_index a.floors.items k ≡ 0
  pub one_region : (n : ℕ) → slice_index a.regions.items n ≡ 0

-- no flow of the same value that keeps the floors of the other arcs carries more at an index, whatever the floor there
pub record CarriesMost (arcs : List Arc) (floors flow : List ℕ) (place : ℕ) : Type 0 where
  pub each : (older others : List ℕ) → ((k : ℕ) → k ≢ place → slice_index floors k ≡ slice_index older k) → IsAlike arcs older flow others
      → slice_index others place ≤ slice_index flow place

-- two searches: one goes ahead from the head of an arc, the other back from its tail
pub record AreSearches (nodes : ℕ) (s : TwoWay) : Type 0 where
  pub ahead : HasPlaces nodes s.ahead
  pub back : HasPlaces nodes s.back
  pub along : s.ahead.back ≡ false
  pub against : s.back.back ≡ true

-- both searches are clear and can begin
pub record AreReady (nodes : ℕ) (s : TwoWay) : Type 0 where
  pub are : AreSearches nodes s
  pub ahead : IsClear s.ahead
  pub back : IsClear s.back

-- both searches are under way
pub record AreUnderWay (arcs : List Arc) (nodes : ℕ) (a : Allotment) (s : TwoWay) : Type 0 where
  pub are : AreSearches nodes s
  pub ahead : IsSearch arcs (room_inside arcs a s.ahead.back) s.ahead
  pub back : IsSearch arcs (room_inside arcs a s.back.back) s.back
