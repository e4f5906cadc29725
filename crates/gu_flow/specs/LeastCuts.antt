-- Machinery: the least source side of a network.
use Rattle.std.specs.Prelude.{◌≡◌, ℕ, Bool, true, false, List}
use Rattle.gu_flow.specs.Flows.{value_of, IsClosed, IsFlow}
use Rattle.gu_flow.specs.declared.network.Arc.{Arc}

-- a source side from which a flow can push no more to the sink side, and which lies within each such side of each flow of the same value
pub record IsLeastSide (arcs : List Arc) (flow : List ℕ) (reached : ℕ → Bool) : Type 0 where
  pub source : reached 0 ≡ true
  pub sink : reached 1 ≡ false
  pub closed : IsClosed arcs flow reached
  pub least : (same : List ℕ) (others : ℕ → Bool) → IsFlow arcs same → value_of arcs same ≡ value_of arcs flow
      → others 0 ≡ true → IsClosed arcs same others → (n : ℕ) → reached n ≡ true → others n ≡ true
