use Rattle.std.proofs.Common.{refl}
use Rattle.itoa.proofs.Decimal.{decimal_two}
use Rattle.gu_fix.proofs.encoding.two_digits.Goals as goal

pub returns : goal.returns
returns c = rw (decimal_two c.args.tag c.requires.0 c.requires.1) refl
