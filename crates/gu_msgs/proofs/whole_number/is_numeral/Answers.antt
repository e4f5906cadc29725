use Rattle.std.proofs.Common.{arith}
use Rattle.gu_msgs.proofs.Numerals.{is_digits_test}
use Rattle.gu_msgs.proofs.whole_number.is_numeral.Goals as goal

pub returns-then-not-is_empty : goal.returns-then-not-is_empty
returns-then-not-is_empty c = let same = is_digits_test c.args.text.now c.are_digits.result c.are_digits.ensures in grind (arith, same)
