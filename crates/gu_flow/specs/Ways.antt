-- Machinery: augmenting paths from the sink back towards the source, as lists of arc ends.
use Rattle.std.specs.Prelude.{◌≡◌, ℕ, ◌+◌, ◌-◌, ◌*◌, ◌/◌, ◌<◌, ◌≤◌, ◌==◌, if◌then◌else◌, List, length, slice_index}
use Rattle.gu_flow.specs.declared.network.Arc.{Arc}
use Rattle.gu_flow.specs.declared.searching.Mark.{Mark}
use Rattle.gu_flow.specs.Ends.{near, far, residual_in}
use Rattle.gu_flow.specs.Searches.{level_at}

-- the node that a path from the sink has reached after this many steps
abbrev pub stand : List Arc → List ℕ → ℕ → ℕ
stand arcs way steps = if steps == 0 then 1 else far arcs (slice_index way (steps - 1))

-- each step leads on from the node that the path has reached
pub record IsWay (arcs : List Arc) (way : List ℕ) (steps : ℕ) : Type 0 where
  pub ends : (i : ℕ) → i < steps → slice_index way i < 2 * length arcs
  pub joined : (i : ℕ) → i < steps → near arcs (slice_index way i) ≡ stand arcs way i

-- no arc is used twice
abbrev pub TakesEachOnce : List ℕ → ℕ → Type 0
TakesEachOnce way steps = (i j : ℕ) → i < steps → j < steps → slice_index way i / 2 ≡ slice_index way j / 2 → i ≡ j

-- a whole path reaches the source and uses no arc twice
pub record IsWhole (arcs : List Arc) (way : List ℕ) : Type 0 where
  pub is_way : IsWay arcs way (length way)
  pub source : stand arcs way (length way) ≡ 0
  pub once : TakesEachOnce way (length way)

-- each step has room for at least this number of lots
abbrev pub HasRoom : List Arc → List ℕ → List ℕ → ℕ → ℕ → Type 0
HasRoom arcs flow way steps lots = (i : ℕ) → i < steps → lots ≤ residual_in arcs flow (slice_index way i)

-- some step has room for exactly this number of lots
pub record IsNarrow (arcs : List Arc) (flow way : List ℕ) (steps lots : ℕ) : Type 0 where
  pub step : ℕ
  pub within : step < steps
  pub room : residual_in arcs flow (slice_index way step) ≡ lots

-- at each node, the search for paths hasn't passed the end that the path uses
abbrev pub IsAhead : List Arc → List ℕ → List ℕ → ℕ → Type 0
IsAhead arcs current way steps = (i : ℕ) → i < steps → slice_index way i < slice_index current (near arcs (slice_index way i))

-- lots can be pushed over an end to its node, which has this level, from a node one level below
pub record IsStep (arcs : List Arc) (flow : List ℕ) (marks : List Mark) (node level end : ℕ) : Type 0 where
  pub end_in : end < 2 * length arcs
  pub here : near arcs end ≡ node
  pub room : 0 < residual_in arcs flow end
  pub falls : level_at marks (far arcs end) + 1 ≡ level

-- an end by which a path can continue: it leads a level down, and the search hasn't passed it
pub record IsDown (arcs : List Arc) (flow : List ℕ) (marks : List Mark) (current : List ℕ) (node end : ℕ) : Type 0 where
  pub step : IsStep arcs flow marks node (level_at marks node) end
  pub ahead : end < slice_index current node

-- a path on which each step has room and leads a level down
pub record IsDescent (arcs : List Arc) (flow : List ℕ) (marks : List Mark) (way : List ℕ) (steps : ℕ) : Type 0 where
  pub each : (i : ℕ) → i < steps → IsStep arcs flow marks (stand arcs way i) (level_at marks (stand arcs way i)) (slice_index way i)
