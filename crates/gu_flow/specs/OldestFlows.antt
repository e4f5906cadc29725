-- Machinery: among all flows of one value, the one that gives older offers more.
use Rattle.std.specs.Prelude.{◌≡◌, ℕ, ◌+◌, ◌<◌, ◌≤◌, min, List, length, slice_index, take}
use Rattle.gu_view.specs.View.{GroupView}
use Rattle.gu_flow.specs.declared.network.Arc.{Arc}
use Rattle.gu_flow.specs.Flows.{value_of, IsFlow}
use Rattle.gu_flow.specs.Networks.{offer_at}
use Rattle.gu_flow.specs.Shares.{agreement_place, agreement_lots}

-- the part of the flow through an agreement's arc that the offers before an index get, by the index of the agreement's room
abbrev pub got_before : GroupView → List ℕ → ℕ → ℕ → ℕ
got_before view flow i place = min (slice_index flow place) (agreement_lots view.rooms (take i view.offers) place)

-- for this many offers: no flow of the same value that leaves the offers before one what they get gives that one more
pub record IsOldestBefore (view : GroupView) (arcs : List Arc) (flow : List ℕ) (count : ℕ) : Type 0 where
  pub each : (i : ℕ) → i < count → (others : List ℕ) → IsFlow arcs others → value_of arcs others ≡ value_of arcs flow
      → ((place : ℕ) → got_before view flow i place ≤ slice_index others place)
      → got_before view others (i + 1) (agreement_place view.rooms (offer_at view.offers i)) ≤ got_before view flow (i + 1) (agreement_place view.rooms (offer_at view.offers i))

-- this holds for all offers
abbrev pub IsOldestFlow : GroupView → List Arc → List ℕ → Type 0
IsOldestFlow view arcs flow = IsOldestBefore view arcs flow (length view.offers)
