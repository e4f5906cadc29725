use Rattle.std.proofs.Common.{◌+◌, ◌++◌, ℕ, List, drop}
use Rattle.serde_json.specs.View.{items_view}
use Rattle.gu_etcd.specs.InMemory.{log_of}
use Rattle.gu_etcd.specs.Pages.{AreEntries}
use Rattle.gu_etcd.proofs.page.entries_of.Given as goal

-- the entries so far, and those of the pairs that are left, are those of all pairs
abbrev pub invariant-loop-i : goal.invariant-loop-i
invariant-loop-i l = (rest : List (List ℕ)) → AreEntries l.name (l.number + l.i) (items_view (drop l.i l.pairs)) rest
    → AreEntries l.name l.number (items_view l.pairs) (log_of l.entries.items ++ rest)
