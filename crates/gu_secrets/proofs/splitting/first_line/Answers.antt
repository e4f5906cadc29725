use Rattle.gu_secrets.proofs.Splits.{lines_first}
use Rattle.gu_secrets.proofs.splitting.first_line.Goals as goal

pub returns-in-Some-clause-lines : goal.returns-in-Some-clause-lines
returns-in-Some-clause-lines c =
    rw c.without_return.ensures (lines_first c.args.text.now c.in-Some.line.now c.in-Some.others.now c.in-Some.ensures.parts)
