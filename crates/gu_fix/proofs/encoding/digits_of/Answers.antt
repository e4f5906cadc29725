use Rattle.std.proofs.Common.{◌/◌, sym, arith}
use Rattle.itoa.proofs.Decimal.{length_one, length_two, length_pair}
use Rattle.gu_fix.proofs.encoding.digits_of.Goals as goal

pub returns-then-number-lt10-clause-digits : goal.returns-then-number-lt10-clause-digits
returns-then-number-lt10-clause-digits c = sym (length_one c.args.number c.if-number-lt10.true)

pub returns-then-number-lt100-clause-digits : goal.returns-then-number-lt100-clause-digits
returns-then-number-lt100-clause-digits c = sym (length_two c.args.number (omega arith) c.if-number-lt100.true)

pub returns-then-number-lt1000-clause-digits : goal.returns-then-number-lt1000-clause-digits
returns-then-number-lt1000-clause-digits c =
    let n = c.args.number in
    let front = length_one (n / 100) (omega arith) in
    let all = length_pair n (omega arith) (omega arith) in
    omega (arith, front, all)
