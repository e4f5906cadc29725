use Rattle.gu_msgs.proofs.Words.{◌≡◌, ◌<◌, arith, length, refl, entry_rows_at, body_rows, entry_rows, header_rows, outer_rows, NO_SIDES}
use Rattle.gu_msgs.proofs.OutlineLemmas.{one_entry_read}
use Rattle.gu_msgs.proofs.trade_capture_report.one_side.Goals as goal

pub returns : goal.returns
unfolding header_rows body_rows entry_rows
returns c =
    let m = c.args.outline.now in
    let entry = c.in_ok-only_entry.field-0 in
    let has = c.in_ok-only_entry.ensures in
    let within : 18 < length (outer_rows m.kind) = rw c.requires.kind (omega arith) in
    let rows : entry_rows_at m 18 ≡ entry_rows NO_SIDES = rw c.requires.kind refl in
    one_entry_read m 18 entry _ _ c.entry_side.result within c.requires.judged has (λ s h. record { entry = entry; one = rw c.requires.kind at has.one; says = h })
    (rw rows c.entry_side.ensures)
