-- Machinery: flows with a floor on each arc.
use Rattle.std.specs.Prelude.{◌≡◌, ℕ, ◌-◌, ◌/◌, ◌≤◌, if◌then◌else◌, List, slice_index}
use Rattle.gu_flow.specs.declared.network.Arc.{Arc}
use Rattle.gu_flow.specs.Ends.{arc_at, is_tail}
use Rattle.gu_flow.specs.Flows.{value_of, IsFlow}

-- no arc carries less than its floor
pub record KeepsFloors (floors flow : List ℕ) : Type 0 where
  pub each : (k : ℕ) → slice_index floors k ≤ slice_index flow k

-- a flow of the same value that keeps the floors
pub record IsAlike (arcs : List Arc) (floors flow others : List ℕ) : Type 0 where
  pub is_flow : IsFlow arcs others
  pub value : value_of arcs others ≡ value_of arcs flow
  pub keeps : KeepsFloors floors others

-- the lots that can still be pushed from an end to the other: the capacity left along the arc, or the flow above the floor against it
abbrev pub room_out : List Arc → List ℕ → List ℕ → ℕ → ℕ
room_out arcs floors flow e =
    if is_tail e then (arc_at arcs (e / 2)).capacity - slice_index flow (e / 2) else slice_index flow (e / 2) - slice_index floors (e / 2)
