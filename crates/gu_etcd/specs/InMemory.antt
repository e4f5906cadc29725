-- An etcd in memory: its log, and what the log has had.
use Rattle.std.specs.Prelude.{◌≡◌, ℕ, ◌<◌, ◌≤◌, ◌^◌, ◌-◌, List, length, map, take}
use Rattle.std.specs.declared.vec.Vec.{Vec}
use Rattle.std.specs.declared.alloc.Global.{Global}

-- the log: the texts of its entries
abbrev pub log_of : List (Vec ℕ Global) → List (List ℕ)
log_of entries = map (λ entry. entry.items) entries

-- the log as it was when it had some number of entries, no fewer than this
abbrev pub HadSince : List (List ℕ) → ℕ → List (List ℕ) → Type 0
HadSince now t log = (count : ℕ) × (t ≤ count) × (count ≤ length now) × (log ≡ take count now)

-- a count went up, if it can
abbrev pub WentUp : ℕ → ℕ → Type 0
WentUp old new = new < 2 ^ 64 - 1 → old < new
