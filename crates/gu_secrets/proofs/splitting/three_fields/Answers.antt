use Rattle.gu_secrets.proofs.Splits.{four_fields}
use Rattle.gu_secrets.proofs.splitting.three_fields.Goals as goal

pub returns-in-Some : goal.returns-in-Some
returns-in-Some c =
    let first = c.in_ok-first in
    let second = c.in_ok-second in
    let more = c.in-Some.field-0 in
    four_fields c.args.line.now first.first.now first.others.now second.second.now second.third.now more.0.now more.1.now
    first.ensures.parts second.ensures.parts c.in-Some.ensures.parts
