use Rattle.std.proofs.Common.{ℕ, ◌+◌, List, ◌++◌, take, drop, sym, ap, ◌∙◌, arith}
use Rattle.std.specs.Prelude.{sum}
use Rattle.std.proofs.Common.{◌%◌}
use Rattle.std.proofs.lemmas.List.{take_rest}
use Rattle.gu_fix.specs.WholeMessage.{opening, trailer_of}
use Rattle.gu_fix.proofs.Places.{open_in_opening, garbled_in_opening, behind_opening, read_body, whole_here, open_in_length, garbled_in_length, read_head, open_in_body, garbled_in_body, whole_in_trailer, open_in_trailer, garbled_in_trailer}
use Rattle.gu_fix.proofs.prefix.place_at.Goals as goal

pub returns-in-Within : goal.returns-in-Within
unfolding opening
returns-in-Within c = open_in_opening c.args.bytes.now c.in-Within.ensures.0 c.in-Within.ensures.1 c.in-Within.ensures.2

pub returns-in-Apart : goal.returns-in-Apart
unfolding opening
returns-in-Apart c = garbled_in_opening c.args.bytes.now c.in-Apart.ensures

pub returns-in-Open : goal.returns-in-Open
unfolding opening
returns-in-Open c =
    let found = simp take_rest at c.in-Open.ensures in
    open_in_length c.args.bytes.now (drop 13 c.args.bytes.now) found.0 found.1 (behind_opening c.args.bytes.now _ c.in-Begins.ensures.1) found.2

pub returns-in-Apart-read_length : goal.returns-in-Apart-read_length
unfolding opening
returns-in-Apart-read_length c =
    let apart = simp take_rest at c.in-Apart-read_length.ensures in
    garbled_in_length c.args.bytes.now (drop 13 c.args.bytes.now) (behind_opening c.args.bytes.now _ c.in-Begins.ensures.1) apart

pub returns-in-Within-meet_body : goal.returns-in-Within-meet_body
unfolding opening
returns-in-Within-meet_body c =
    let read = simp take_rest at c.in-Read.ensures in
    let head = read_head c.args.bytes.now _ _ _ c.in-Read.digits c.in-Read.len c.in-Begins.ensures.1 read.4 read.2 read.3 in
    let body = simp take_rest at c.in-Within-meet_body.ensures in
    open_in_body _ _ _ _ _ _ head body.2 body.3

pub returns-in-Apart-meet_body : goal.returns-in-Apart-meet_body
unfolding opening
returns-in-Apart-meet_body c =
    let read = simp take_rest at c.in-Read.ensures in
    let head = read_head c.args.bytes.now _ _ _ c.in-Read.digits c.in-Read.len c.in-Begins.ensures.1 read.4 read.2 read.3 in
    garbled_in_body _ _ _ _ head (simp take_rest at c.in-Apart-meet_body.ensures)

pub returns-in-Begins-meet : goal.returns-in-Begins-meet
unfolding opening
returns-in-Begins-meet c =
    let read = simp take_rest at c.in-Read.ensures in
    let head = read_head c.args.bytes.now _ _ _ c.in-Read.digits c.in-Read.len c.in-Begins.ensures.1 read.4 read.2 read.3 in
    let found = simp take_rest at c.in-Begins-meet_body.ensures in
    let end = 13 + c.in-Read.digits + 1 + c.in-Read.len in
    let body = read_body c.args.bytes.now _ c.in-Read.len end _ _ _ head found.2 found.3 (omega (arith, read.2)) in
    let trailer_is = c.trailer.ensures ∙ ap trailer_of (c.checksum.ensures ∙ ap (λ (t : List ℕ). sum (take end t) % 256) (sym c.requires) ∙ ap (λ (t : List ℕ). sum t % 256) body.1) in
    let last = simp take_rest at c.in-Begins-meet.ensures in
    whole_here c.args.bytes.now read.0 found.0 last.0 (end + 7) (whole_in_trailer _ _ _ _ _ body.0 (last.1 ∙ ap (λ (t : List ℕ). t ++ last.0) trailer_is)) (omega (arith, read.2, found.2))

pub returns-in-Within-meet : goal.returns-in-Within-meet
unfolding opening
returns-in-Within-meet c =
    let read = simp take_rest at c.in-Read.ensures in
    let head = read_head c.args.bytes.now _ _ _ c.in-Read.digits c.in-Read.len c.in-Begins.ensures.1 read.4 read.2 read.3 in
    let found = simp take_rest at c.in-Begins-meet_body.ensures in
    let end = 13 + c.in-Read.digits + 1 + c.in-Read.len in
    let body = read_body c.args.bytes.now _ c.in-Read.len end _ _ _ head found.2 found.3 (omega (arith, read.2)) in
    let trailer_is = c.trailer.ensures ∙ ap trailer_of (c.checksum.ensures ∙ ap (λ (t : List ℕ). sum (take end t) % 256) (sym c.requires) ∙ ap (λ (t : List ℕ). sum t % 256) body.1) in
    let last = simp take_rest at c.in-Within-meet.ensures in
    open_in_trailer _ _ _ _ _ body.0 last.1 (last.2 ∙ trailer_is)

pub returns-in-Apart-meet : goal.returns-in-Apart-meet
unfolding opening
returns-in-Apart-meet c =
    let read = simp take_rest at c.in-Read.ensures in
    let head = read_head c.args.bytes.now _ _ _ c.in-Read.digits c.in-Read.len c.in-Begins.ensures.1 read.4 read.2 read.3 in
    let found = simp take_rest at c.in-Begins-meet_body.ensures in
    let end = 13 + c.in-Read.digits + 1 + c.in-Read.len in
    let body = read_body c.args.bytes.now _ c.in-Read.len end _ _ _ head found.2 found.3 (omega (arith, read.2)) in
    let trailer_is = c.trailer.ensures ∙ ap trailer_of (c.checksum.ensures ∙ ap (λ (t : List ℕ). sum (take end t) % 256) (sym c.requires) ∙ ap (λ (t : List ℕ). sum t % 256) body.1) in
    let last = simp take_rest at c.in-Apart-meet.ensures in
    garbled_in_trailer _ _ _ _ body.0 (λ more rest e. last more rest (e ∙ ap (λ (t : List ℕ). t ++ rest) (sym trailer_is)))
