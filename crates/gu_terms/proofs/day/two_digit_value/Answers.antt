use Rattle.std.proofs.Common.{arith}
use Rattle.gu_terms.proofs.NumberLemmas.{few_digits}
use Rattle.gu_terms.proofs.day.two_digit_value.Goals as goal

pub returns-in-None : goal.returns-in-None
returns-in-None c = let small = few_digits 2 c.args.digits.now c.requires.digits c.requires.short in omega (arith, c.in-None.ensures)
