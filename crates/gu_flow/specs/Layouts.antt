-- Machinery: the network of ways through places: executing firm, agreement, then account, carrying firm and guarantor.
use Rattle.std.specs.Prelude.{ℕ, ◌+◌, ◌==◌, if◌then◌else◌, List, Option, None, Some, slice_get}

-- each place has a node; node 0 is the source, and node 1 the sink
abbrev pub node_of : ℕ → ℕ
node_of place = place + 2

abbrev pub node_or_sink : Option ℕ → ℕ
node_or_sink None = 1
node_or_sink (Some place) = node_of place

-- the node of a way after this many steps: the source, the node of its first place, then that of each place but the second, and the sink
-- after the last
abbrev pub node_at : List ℕ → ℕ → ℕ
node_at way steps = if steps == 0 then 0 else node_or_sink (slice_get way (if steps == 1 then 0 else steps))
