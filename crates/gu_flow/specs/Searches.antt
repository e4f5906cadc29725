-- Machinery: searches within a region, end by end; no arc may fall below its floor.
use Rattle.std.specs.Prelude.{◌≡◌, ◌≢◌, ℕ, ◌+◌, ◌-◌, ◌*◌, ◌<◌, ◌≤◌, List, length, Bool, false, count_by, nat_lt, slice_index, slice_index_or}
use Rattle.gu_flow.specs.declared.network.Arc.{Arc}
use Rattle.gu_flow.specs.declared.searching.Mark.{Mark}
use Rattle.gu_flow.specs.declared.searching.Search.{Search}
use Rattle.gu_flow.specs.Ends.{near, far}

-- a node's mark, and its level: 1 for the node where the search began, one more for each step from it, and 0 if it hasn't been reached
abbrev pub no_mark : Mark
no_mark = record { via = 0; level = 0; lots = 0 }

abbrev pub mark_at : List Mark → ℕ → Mark
mark_at marks n = slice_index_or marks n no_mark

abbrev pub level_at : List Mark → ℕ → ℕ
level_at marks n = (mark_at marks n).level

-- whether a node was reached
abbrev pub is_reached : List Mark → ℕ → Bool
is_reached marks n = nat_lt 0 (level_at marks n)

-- a node was reached over an end from a node one level below, with lots for which each step so far has room; `room` gives the lots that a
-- search can push over an end
pub record IsEntry (arcs : List Arc) (room : ℕ → ℕ) (marks : List Mark) (node : ℕ) (m : Mark) : Type 0 where
  pub end_in : m.via < 2 * length arcs
  pub here : far arcs m.via ≡ node
  pub some : 0 < m.lots
  pub fits : m.lots ≤ room m.via
  pub least : m.lots ≤ (mark_at marks (near arcs m.via)).lots
  pub falls : level_at marks (near arcs m.via) + 1 ≡ m.level

-- each reached node is the one where the search began, or was reached from another
pub record IsTree (arcs : List Arc) (room : ℕ → ℕ) (source : ℕ) (marks : List Mark) : Type 0 where
  pub begun : level_at marks source ≡ 1
  pub some : 0 < (mark_at marks source).lots
  pub entered : (n : ℕ) → n ≢ source → 0 < level_at marks n → IsEntry arcs room marks n (mark_at marks n)
  pub above : (n : ℕ) → n ≢ source → 0 < level_at marks n → 1 < level_at marks n
  pub levels : (n : ℕ) → level_at marks n ≤ length marks
  pub most_lots : (n : ℕ) → 0 < level_at marks n → (mark_at marks n).lots ≤ (mark_at marks source).lots

abbrev pub reached_count : List Mark → ℕ
reached_count marks = count_by (λ (e : Mark). nat_lt 0 e.level) marks

-- the reached nodes are those in the queue
pub record IsQueue (marks : List Mark) (queue : List ℕ) (count : ℕ) : Type 0 where
  pub counted : reached_count marks ≡ count
  pub waits : (n : ℕ) → 0 < level_at marks n → (k : ℕ) × ((k < count) × (slice_index queue k ≡ n))
  pub reached : (k : ℕ) → k < count → (slice_index queue k < length marks) × (0 < level_at marks (slice_index queue k))
  pub low : (n : ℕ) → level_at marks n ≤ count

-- over the ends at a node that are not before `from`, each node to which lots can be pushed is reached
abbrev pub IsLookedThrough : List Arc → (ℕ → ℕ) → List Mark → ℕ → ℕ → Type 0
IsLookedThrough arcs room marks node from =
    (e : ℕ) → from ≤ e → e < 2 * length arcs → near arcs e ≡ node → 0 < room e → 0 < level_at marks (far arcs e)

-- the first `done` nodes in the queue have been looked through, and the next one for its ends from `ends` on
pub record IsSearch (arcs : List Arc) (room : ℕ → ℕ) (s : Search) : Type 0 where
  pub tree : IsTree arcs room s.from s.marks.items
  pub waits : IsQueue s.marks.items s.queue.items s.count
  pub within : s.done ≤ s.count
  pub spent : (k : ℕ) → k < s.done → IsLookedThrough arcs room s.marks.items (slice_index s.queue.items k) 0
  pub ends_in : s.ends ≤ 2 * length arcs
  pub ends_at : s.done < s.count → 0 < s.ends → near arcs (s.ends - 1) ≡ slice_index s.queue.items s.done
  pub half : s.done < s.count → IsLookedThrough arcs room s.marks.items (slice_index s.queue.items s.done) s.ends

-- at the next node in the queue, a search can go on from `ends`
pub record GoesOn (arcs : List Arc) (room : ℕ → ℕ) (s : Search) (ends : ℕ) : Type 0 where
  pub ends_in : ends ≤ s.ends
  pub ends_at : 0 < ends → near arcs (ends - 1) ≡ slice_index s.queue.items s.done
  pub half : IsLookedThrough arcs room s.marks.items (slice_index s.queue.items s.done) ends

-- it has room for this number of nodes
pub record HasPlaces (nodes : ℕ) (s : Search) : Type 0 where
  pub marks : length s.marks.items ≡ nodes
  pub queue : length s.queue.items ≡ nodes

-- no node is reached
abbrev pub IsClear : Search → Type 0
IsClear s = (n : ℕ) → level_at s.marks.items n ≡ 0

-- a search continues: reached nodes keep their marks and their places in the queue
pub record KeepsReached (old new : Search) : Type 0 where
  pub from : new.from ≡ old.from
  pub back : new.back ≡ old.back
  pub marks : (n : ℕ) → 0 < level_at old.marks.items n → mark_at new.marks.items n ≡ mark_at old.marks.items n
  pub places : (k : ℕ) → k < old.count → slice_index new.queue.items k ≡ slice_index old.queue.items k
  pub grows : old.count ≤ new.count

-- a search ahead that is clear and can begin
pub record IsReady (nodes : ℕ) (s : Search) : Type 0 where
  pub places : HasPlaces nodes s
  pub clear : IsClear s
  pub ahead : s.back ≡ false

-- a search ahead from the source
pub record IsSourceSearch (arcs : List Arc) (nodes : ℕ) (room : ℕ → ℕ) (s : Search) : Type 0 where
  pub places : HasPlaces nodes s
  pub search : IsSearch arcs room s
  pub source : s.from ≡ 0
  pub ahead : s.back ≡ false

-- a bound on the turns left to a search
abbrev pub turns_left : List Arc → Search → ℕ
turns_left arcs s = (length s.marks.items - s.done) * (2 * length arcs + 1) + s.ends
