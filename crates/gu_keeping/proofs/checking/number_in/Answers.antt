use Rattle.std.proofs.Common.{arith}
use Rattle.gu_keeping.proofs.DigestLemmas.{line_long, line_number}
use Rattle.gu_keeping.proofs.checking.number_in.Goals as goal

pub returns-then-line-lt68 : goal.returns-then-line-lt68
returns-then-line-lt68 c = λ chain long few is. absurd (omega (arith, line_long chain c.args.line.now long few is, c.if-line-lt68.true))

pub returns : goal.returns
returns c = λ chain long few is. c.number_of.ensures chain.count few (line_number chain c.args.line.now long is)
