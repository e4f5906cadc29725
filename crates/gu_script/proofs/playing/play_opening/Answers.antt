use Rattle.gu_script.proofs.Words.{◌≡◌, Err, ap, Place, BadLine, Read}
use Rattle.gu_script.proofs.playing.play_opening.Goals as goal

pub returns-in-Ok-clause-done : goal.returns-in-Ok-clause-done
returns-in-Ok-clause-done g c =
    let replayed = rw (ap (λ (p : Place). p.course) c.new-script.ensures) at c.in-Ok.ensures.done in
    (replayed.text, replayed.all)

pub returns-in-Err-clause-bad_line : goal.returns-in-Err-clause-bad_line
returns-in-Err-clause-bad_line g c n is =
    let same : c.in-Err.error ≡ BadLine n = cc in
    let stops = rw (ap (λ (p : Place). p.course) c.new-script.ensures) at (c.in-Err.ensures.bad_line n (ap Err same)) in
    (stops.text, stops.has_bad_line)

pub returns-in-Err-clause-stopped : goal.returns-in-Err-clause-stopped
returns-in-Err-clause-stopped g c is =
    let same : c.in-Err.error ≡ Read = cc in
    c.in-Err.ensures.stopped (ap Err same)
