use Rattle.std.proofs.Common.{◌≡◌, ◌/◌, ◌%◌, refl, arith}
use Rattle.std.proofs.lemmas.Fmt.{decimal_digit}
use Rattle.itoa.proofs.Decimal.{decimal_pair}
use Rattle.gu_fix.proofs.encoding.three_digits.Goals as goal

pub returns : goal.returns
returns c =
    let n = c.args.tag in
    let tens : n / 10 % 10 ≡ n % 100 / 10 = omega arith in
    let ones : n % 10 ≡ n % 100 % 10 = omega arith in
    rw (decimal_pair n c.requires.0 (omega arith), decimal_digit (n / 100) (omega arith), tens, ones) refl
