-- Machinery: preflows, with the excess of each node.
use Rattle.std.specs.Prelude.{◌≡◌, ◌≢◌, ℕ, ◌+◌, ◌*◌, ◌<◌, ◌≤◌, List, length, slice_index}
use Rattle.gu_flow.specs.declared.network.Arc.{Arc}
use Rattle.gu_flow.specs.Ends.{arc_at}
use Rattle.gu_flow.specs.Flows.{inflow, outflow, IsWithin}

-- within each capacity; except at the source and the sink, a node's inflow is its outflow plus its excess
pub record IsPreflow (arcs : List Arc) (flow excess : List ℕ) : Type 0 where
  pub within : IsWithin arcs flow
  pub kept : (n : ℕ) → n ≢ 0 → n ≢ 1 → inflow arcs flow n ≡ outflow arcs flow n + slice_index excess n
  pub taken : outflow arcs flow 1 ≤ inflow arcs flow 1
  pub sink : slice_index excess 1 ≡ 0

-- a preflow while lots are pushed down: each list has an entry for each node, and ends are within the arcs
pub record IsSurge (arcs : List Arc) (nodes : ℕ) (flow excess heights current : List ℕ) (ring : ℕ) : Type 0 where
  pub preflow : IsPreflow arcs flow excess
  pub lists : (length excess ≡ nodes) × (length heights ≡ nodes) × (length current ≡ nodes) × (ring ≡ nodes)
  pub ends : (n : ℕ) → slice_index current n ≤ 2 * length arcs

-- the arcs before an index bring nothing to a node that has an excess
abbrev pub AreSettled : List Arc → List ℕ → List ℕ → ℕ → Type 0
AreSettled arcs flow excess count =
    (k : ℕ) → k < count → 1 < (arc_at arcs k).to → 0 < slice_index flow k → slice_index excess (arc_at arcs k).to ≡ 0
