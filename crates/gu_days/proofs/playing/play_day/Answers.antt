use Rattle.gu_days.proofs.Words.{◌≡◌, Err, ap, lines}
use Rattle.gu_streams.specs.Reads.{left_in}
use Rattle.gu_script.specs.declared.error.ScriptError.{ScriptError}
use Rattle.gu_script.specs.declared.error.ScriptError.TheVariants.{BadLine}
use Rattle.gu_days.proofs.Whole.{whole_bad, whole_lines}
use Rattle.gu_days.proofs.playing.play_day.Goals as goal

pub returns-in-Ok-clause-played : goal.returns-in-Ok-clause-played
returns-in-Ok-clause-played c =
    let done = c.in-Ok.ensures.done in
    (done.0, whole_lines _ _ _ _ _ _ done.1 (ap (left_in _) c.new.ensures.source))

pub returns-in-Ok-clause-day : goal.returns-in-Ok-clause-day
returns-in-Ok-clause-day c = λ history legal says.
    let done = c.in-Ok.ensures.done in
    c.what_says_a_day_plays_to_it.ensures c.args.reference history (lines c.args.text.now) done.0 c.in-Ok.world legal says
    (whole_lines _ _ _ _ _ _ done.1 (ap (left_in _) c.new.ensures.source))

pub returns-clause-bad_line : goal.returns-clause-bad_line
returns-clause-bad_line c = λ number is.
    let same : c.in-Err.error ≡ BadLine number = cc in
    let bad = c.in-Err.ensures.bad_line number (ap (λ (e : ScriptError). Err e) same) in
    (bad.0, whole_bad _ _ _ _ _ _ bad.1 (ap (left_in _) c.new.ensures.source))
