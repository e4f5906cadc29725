use Rattle.gu_msgs.proofs.Words.{◌≡◌, ◌<◌, [], arith, length, refl, IsSoundItem, item_of, row, tag_at, body_rows, entry_rows, header_rows, outer_rows, Heartbeat, Logout, Reject}
use Rattle.gu_msgs.proofs.OutlineLemmas.{any_text, of_type, one_more}
use Rattle.gu_msgs.proofs.reading.read_outlined.Goals as goal

pub returns-in-Heartbeat : goal.returns-in-Heartbeat
unfolding header_rows body_rows entry_rows
returns-in-Heartbeat c =
    let m = c.args.outline.now in
    let shaped = rw c.in-Heartbeat.is at c.requires.shaped in
    let within : 10 < length (outer_rows m.kind) = rw shaped.is_kind (omega arith) in
    let plain : entry_rows (tag_at m 10) ≡ [] = rw shaped.is_kind refl in
    let sound : IsSoundItem (item_of m.fields (row m 10)) = rw shaped.is_kind (any_text _) in
    of_type Heartbeat m shaped (one_more m 10 within plain c.requires.judged sound) tt

pub returns-in-Reject : goal.returns-in-Reject
unfolding header_rows body_rows
returns-in-Reject c = of_type Reject c.args.outline.now (rw c.in-Reject.is at c.requires.shaped) c.requires.judged tt

pub returns-in-Logout : goal.returns-in-Logout
unfolding header_rows body_rows
returns-in-Logout c = of_type Logout c.args.outline.now (rw c.in-Logout.is at c.requires.shaped) c.requires.judged tt
