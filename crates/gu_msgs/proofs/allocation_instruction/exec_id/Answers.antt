use Rattle.gu_msgs.proofs.Words.{◌≡◌, ◌<◌, arith, length, refl, entry_rows_at, body_rows, entry_rows, header_rows, outer_rows, NO_EXECS}
use Rattle.gu_msgs.proofs.OutlineLemmas.{one_entry_read}
use Rattle.gu_msgs.proofs.allocation_instruction.exec_id.Goals as goal

pub returns : goal.returns
unfolding header_rows body_rows entry_rows
returns c =
    let m = c.args.outline.now in
    let entry = c.in_ok-only_entry.field-0 in
    let has = c.in_ok-only_entry.ensures in
    let within : 13 < length (outer_rows m.kind) = rw c.requires.kind (omega arith) in
    let rows : entry_rows_at m 13 ≡ entry_rows NO_EXECS = rw c.requires.kind refl in
    one_entry_read m 13 entry _ _ c.entry_exec.result within c.requires.judged has (λ id h. record { entry = entry; one = rw c.requires.kind at has.one; says = h })
    (rw rows c.entry_exec.ensures)
