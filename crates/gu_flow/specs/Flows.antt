-- Machinery: flows: the lots on each arc of a network, from node 0, the source, to node 1, the sink.
use Rattle.std.specs.Prelude.{◌≡◌, ◌≢◌, ℕ, zero, suc, ◌-◌, ◌+◌, ◌*◌, ◌/◌, ◌<◌, ◌≤◌, ◌==◌, if◌then◌else◌, Bool, true, false, List, [], ◌∷◌, length, map, slice_index, sum, sum_by}
use Rattle.gu_flow.specs.declared.network.Arc.{Arc}
use Rattle.gu_flow.specs.Ends.{arc_at, is_tail, near, far, residual_in, residual_out}

-- the indexes of a list with this number of elements
unfoldable pub places : ℕ → List ℕ
places zero = []
places (suc n) = 0 ∷ map suc (places n)

-- the sum, over the arcs that pass a test, of the term at each index
unfoldable pub sum_over : List Arc → (Arc → Bool) → (ℕ → ℕ) → ℕ
sum_over arcs t term = sum_by (λ k. if t (arc_at arcs k) then term k else 0) (places (length arcs))

-- the flow into a node, and the flow out of it
abbrev pub inflow : List Arc → List ℕ → ℕ → ℕ
inflow arcs flow n = sum_over arcs (λ a. a.to == n) (λ k. slice_index flow k)

abbrev pub outflow : List Arc → List ℕ → ℕ → ℕ
outflow arcs flow n = sum_over arcs (λ a. a.from == n) (λ k. slice_index flow k)

-- the net flow into the sink
abbrev pub value_of : List Arc → List ℕ → ℕ
value_of arcs flow = inflow arcs flow 1 - outflow arcs flow 1

-- no arc carries more than its capacity
pub record IsWithin (arcs : List Arc) (flow : List ℕ) : Type 0 where
  pub all : length flow ≡ length arcs
  pub each : (k : ℕ) → slice_index flow k ≤ (arc_at arcs k).capacity

-- within each capacity, and flow is conserved except at the source and the sink; no more leaves the sink than reaches it
pub record IsFlow (arcs : List Arc) (flow : List ℕ) : Type 0 where
  pub within : IsWithin arcs flow
  pub kept : (n : ℕ) → n ≢ 0 → n ≢ 1 → inflow arcs flow n ≡ outflow arcs flow n
  pub taken : outflow arcs flow 1 ≤ inflow arcs flow 1

-- this number of lots is pushed over an end from its node to the other, and nothing else changes
pub record Pushes (arcs : List Arc) (old new : List ℕ) (end lots : ℕ) : Type 0 where
  pub within : IsWithin arcs new
  pub nodes : (n : ℕ)
      → inflow arcs new n + outflow arcs old n + (if near arcs end == n then lots else 0)
      ≡ inflow arcs old n + outflow arcs new n + (if far arcs end == n then lots else 0)
  pub others : (d : ℕ) → d / 2 ≢ end / 2 → residual_in arcs new d ≡ residual_in arcs old d
  pub less : is_tail end ≡ false → sum new + lots ≡ sum old

-- no lots can be pushed from the reached nodes to the others, if `room` gives the lots that can be pushed over an end
pub record IsShut (arcs : List Arc) (room : ℕ → ℕ) (reached : ℕ → Bool) : Type 0 where
  pub each : (e : ℕ) → e < 2 * length arcs → reached (near arcs e) ≡ true → reached (far arcs e) ≡ false → room e ≡ 0

-- a flow can push no more from the reached nodes to the others
abbrev pub IsClosed : List Arc → List ℕ → (ℕ → Bool) → Type 0
IsClosed arcs flow = IsShut arcs (residual_out arcs flow)
