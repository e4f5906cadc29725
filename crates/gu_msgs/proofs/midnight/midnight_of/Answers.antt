use Rattle.std.proofs.Common.{◌*◌, ap, ◌∙◌}
use Rattle.gu_msgs.proofs.Midnights.{midnight_text}
use Rattle.gu_msgs.proofs.midnight.midnight_of.Goals as goal

pub returns-clause-text : goal.returns-clause-text
returns-clause-text c late text writes =
    let day = c.args.day in
    let is = c.date_of.ensures in
    midnight_text c.date_of.result c.known.result day.year day.month day.day text (c.known.ensures ∙ ap (λ n. 86400000 * n) c.days_after.ensures.days) is.year is.month is.day late writes
