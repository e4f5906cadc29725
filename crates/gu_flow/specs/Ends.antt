-- Machinery: networks, and the two ends of each arc: 2k is the tail of arc k, and 2k + 1 its head.
use Rattle.std.specs.Prelude.{◌≡◌, ℕ, zero, suc, ◌+◌, ◌-◌, ◌*◌, ◌/◌, ◌%◌, ◌^◌, ◌<◌, ◌≤◌, ◌==◌, Bool, if◌then◌else◌, List, All, length, slice_index, slice_index_or, sum_by}
use Rattle.gu_flow.specs.declared.network.Arc.{Arc}
use Rattle.gu_flow.specs.declared.network.EndLink.{EndLink}

-- the arc at an index
abbrev pub no_arc : Arc
no_arc = record { from = 0; to = 0; capacity = 0 }

abbrev pub arc_at : List Arc → ℕ → Arc
arc_at arcs k = slice_index_or arcs k no_arc

-- whether an end is its arc's tail
abbrev pub is_tail : ℕ → Bool
is_tail e = e % 2 == 0

-- the node at an end, and the node at the other end of the arc
abbrev pub near : List Arc → ℕ → ℕ
near arcs e = if is_tail e then (arc_at arcs (e / 2)).from else (arc_at arcs (e / 2)).to

abbrev pub far : List Arc → ℕ → ℕ
far arcs e = if is_tail e then (arc_at arcs (e / 2)).to else (arc_at arcs (e / 2)).from

-- the arc's other end
abbrev pub other_end : ℕ → ℕ
other_end e = if is_tail e then e + 1 else e - 1

-- the lots that can still be pushed to an end from the other: the flow against the arc, or the capacity left along it
abbrev pub residual_in : List Arc → List ℕ → ℕ → ℕ
residual_in arcs flow e = if is_tail e then slice_index flow (e / 2) else (arc_at arcs (e / 2)).capacity - slice_index flow (e / 2)

-- the lots that can still be pushed from an end to the other
abbrev pub residual_out : List Arc → List ℕ → ℕ → ℕ
residual_out arcs flow e = if is_tail e then (arc_at arcs (e / 2)).capacity - slice_index flow (e / 2) else slice_index flow (e / 2)

-- each arc joins two nodes out of this number
abbrev pub JoinsNodes : List Arc → ℕ → Type 0
JoinsNodes arcs nodes = All (λ a. (a.from < nodes) × (a.to < nodes)) arcs

-- the last end before this one that is at a node, plus one; or 0
unfoldable pub last_before : List Arc → ℕ → ℕ → ℕ
last_before arcs zero n = 0
last_before arcs (suc e) n = if near arcs e == n then suc e else last_before arcs e n

-- the link of an end
abbrev pub no_link : EndLink
no_link = record { far = 0; next = 0 }

abbrev pub link_at : List EndLink → ℕ → EndLink
link_at links e = slice_index_or links e no_link

-- the ends before `count` are linked at each node: `first` gives the last of them, and each link the one before it and the node to which it leads
pub record IsIndex (arcs : List Arc) (first : List ℕ) (links : List EndLink) (count : ℕ) : Type 0 where
  pub last : (n : ℕ) → n < length first → slice_index first n ≡ last_before arcs count n
  pub before : (e : ℕ) → e < count → (link_at links e).next ≡ last_before arcs e (near arcs e)
  pub leads : (e : ℕ) → e < count → (link_at links e).far ≡ far arcs e

-- at each node, the search for paths continues at one of the node's ends, or has none left
pub record IsCurrent (arcs : List Arc) (current : List ℕ) : Type 0 where
  pub ends : (n : ℕ) → slice_index current n ≤ 2 * length arcs
  pub here : (n : ℕ) → 0 < slice_index current n → near arcs (slice_index current n - 1) ≡ n

-- the total capacity of the arcs
abbrev pub capacities : List Arc → ℕ
capacities arcs = sum_by (λ a. a.capacity) arcs

-- a network: fewer than 2^31 arcs join fewer than 2^31 nodes, source and sink included, total capacity is below 2^64, and ends are linked
pub record IsNetwork (arcs : List Arc) (first : List ℕ) (links : List EndLink) : Type 0 where
  pub joins : JoinsNodes arcs (length first)
  pub ends : 1 < length first
  pub few_nodes : length first < 2 ^ 31
  pub few_arcs : length arcs < 2 ^ 31
  pub fits : capacities arcs < 2 ^ 64
  pub index : IsIndex arcs first links (2 * length arcs)
  pub all : length links ≡ 2 * length arcs
