use Rattle.std.proofs.Common.{[], Err, ap}
use Rattle.gu_text.proofs.PieceLemmas.{end_refused, piece_refused}
use Rattle.gu_text.proofs.sheet.Sheet.read.Goals as goal

pub returns-in_err-take-clause-refused : goal.returns-in_err-take-clause-refused
returns-in_err-take-clause-refused c =
    piece_refused c.from_residual.result c.in_err-take.field-0.0 c.args.text.now c.from_residual.ensures.1 (λ n is. c.in_err-take.ensures.bad n (ap Err is) [] c.seeded-reading.ensures.read)

pub returns-clause-refused : goal.returns-clause-refused
returns-clause-refused c = end_refused c.end.result _ c.args.text.now (c.in_ok-take.ensures.read [] c.seeded-reading.ensures.read) c.end.ensures.refused
