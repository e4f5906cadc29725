use Rattle.gu_msgs.proofs.Words.{◌≡◌, ◌<◌, ◌∙◌, List, ap, arith, length, refl, subst, err_from_is_err_and, flat_map, entries_by, Item, items_of, IsRefusedOf, entries_at, entry_rows_at, body_rows, entry_rows, header_rows, outer_rows, ALLOC_ACCOUNT, NO_ALLOCS}
use Rattle.gu_msgs.proofs.AllocLemmas.{length-allocs}
use Rattle.gu_msgs.proofs.OutlineLemmas.{group_refused}
use Rattle.gu_msgs.proofs.allocation_instruction.lines.Goals as goal

pub returns-in_err-list : goal.returns-in_err-list
unfolding header_rows body_rows entry_rows
returns-in_err-list c =
    let m = c.args.outline.now in
    let within : 14 < length (outer_rows m.kind) = rw c.requires.kind (omega arith) in
    let e = c.in_err-list.field-0.0 in
    let same : flat_map (items_of (entry_rows NO_ALLOCS)) (entries_by ALLOC_ACCOUNT c.group.result) ≡ flat_map (items_of (entry_rows_at m 14)) (entries_at m 14) =
    rw (c.group.ensures.fields, c.requires.kind) refl in
    group_refused m 14 _ e c.from_residual-in_err-list.result within c.requires.judged c.in_ok-count.ensures.sound (err_from_is_err_and _ c.from_residual-in_err-list.ensures.1)
    (subst (λ (items : List Item). IsRefusedOf items e) same c.in_err-list.ensures)

pub known-requires : goal.known-requires
unfolding header_rows body_rows entry_rows
known-requires c =
    let m = c.args.outline.now in
    let entries : entries_at m 14 ≡ entries_by ALLOC_ACCOUNT c.group.result = rw (c.group.ensures.fields, c.requires.kind) refl in
    let as_many = length-allocs (entries_by ALLOC_ACCOUNT c.group.result) c.in_ok-list.list.items c.in_ok-list.ensures.0 in
    let count = c.in_ok-count.ensures in
    let same = count.counted ∙ ap length entries ∙ as_many in
    record { some = omega (arith, count.from, same); most = omega (arith, count.to, same) }
