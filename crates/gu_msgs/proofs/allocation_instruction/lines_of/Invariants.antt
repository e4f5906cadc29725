use Rattle.std.specs.Vec.{vec_capacity, vec_len}
use Rattle.gu_msgs.proofs.Words.{◌≡◌, ◌≤◌, ◌+◌, ◌++◌, List, Option, None, length, flat_map, Line, entries_by, items_of, AreAllocs, entries_fault, entry_rows, Fault, ALLOC_ACCOUNT, NO_ALLOCS}
use Rattle.gu_msgs.proofs.ItemLemmas.{HasFirst}
use Rattle.gu_msgs.proofs.allocation_instruction.lines_of.Given as goal

abbrev pub invariant-loop-entry : goal.invariant-loop-entry
invariant-loop-entry l = record {
  tags : entries_fault (entry_rows NO_ALLOCS) (entries_by ALLOC_ACCOUNT l.rest) ≡ None;
  so_far : (later : List Line) → AreAllocs (entries_by ALLOC_ACCOUNT l.rest) later → AreAllocs (entries_by ALLOC_ACCOUNT l.group) (l.lines.items ++ later);
  first : (found : Option Fault) → HasFirst (flat_map (items_of (entry_rows NO_ALLOCS)) (entries_by ALLOC_ACCOUNT l.rest)) found
      → HasFirst (flat_map (items_of (entry_rows NO_ALLOCS)) (entries_by ALLOC_ACCOUNT l.group)) found;
  room : length (entries_by ALLOC_ACCOUNT l.rest) + vec_len l.lines ≤ vec_capacity l.lines;
}

abbrev pub decreases-loop-entry : goal.decreases-loop-entry
decreases-loop-entry l = length (entries_by ALLOC_ACCOUNT l.rest)
