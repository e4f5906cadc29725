use Rattle.gu_msgs.proofs.Words.{◌∷◌, [], None, Some, List, ap, append_assoc, arith, length, append-nil, err_from_is_err_and, flat_map, entries_by, Item, items_of, entry_rows, ALLOC_ACCOUNT, NO_ALLOCS}
use Rattle.gu_msgs.proofs.ItemLemmas.{behind_sound, fault_before}
use Rattle.gu_msgs.proofs.OutlineLemmas.{entries_refused, later_tags}
use Rattle.gu_msgs.proofs.allocation_instruction.lines_of.Goals as goal

pub returns-in_err-entry_line : goal.returns-in_err-entry_line
returns-in_err-entry_line c =
    let rows = entry_rows NO_ALLOCS in
    let entry = c.in-Some.entry in
    let fault = c.in_err-entry_line.field-0.0 in
    let others : List Item = flat_map (items_of rows) (entries_by ALLOC_ACCOUNT c.next_entry.new.rest) in
    let first = fault_before (items_of rows entry) others fault c.in_err-entry_line.ensures in
    entries_refused rows (entries_by ALLOC_ACCOUNT c.args.group.now) _ c.from_residual-in_err-entry_line.result fault (err_from_is_err_and _ c.from_residual-in_err-entry_line.ensures.1)
    (c.loop-entry.invariant.first (Some fault) (rw c.in-Some.ensures first))

pub loop-entry-preserved : goal.loop-entry-preserved
loop-entry-preserved c =
    let rows = entry_rows NO_ALLOCS in
    let entry = c.in-Some.entry in
    let line = c.in_ok-entry_line.field-0 in
    let others : List Item = flat_map (items_of rows) (entries_by ALLOC_ACCOUNT c.next_entry.new.rest) in
    record {
      tags = later_tags rows entry (entries_by ALLOC_ACCOUNT c.next_entry.new.rest) (rw c.in-Some.ensures at c.loop-entry.invariant.tags);
      so_far = λ later are. rw (c.push_reserved.ensures.items, append_assoc) (c.loop-entry.invariant.so_far (line ∷ later) (rw c.in-Some.ensures (c.in_ok-entry_line.ensures.0, are)));
      first = λ found h. c.loop-entry.invariant.first found (rw c.in-Some.ensures (behind_sound (items_of rows entry) others c.in_ok-entry_line.ensures.1 found h));
      room = omega (arith, c.loop-entry.invariant.room, ap length c.in-Some.ensures, c.push_reserved.ensures.len, c.push_reserved.ensures.capacity);
    }

pub returns : goal.returns
returns c =
    let all = c.loop-entry.invariant.so_far [] (rw c.in_default.ensures tt) in
    (rw append-nil at all, c.loop-entry.invariant.first None (rw c.in_default.ensures tt))
