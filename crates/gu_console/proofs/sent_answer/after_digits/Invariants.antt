use Rattle.std.proofs.Common.{length}
use Rattle.gu_console.proofs.sent_answer.after_digits.Given as goal

abbrev pub decreases-digits : goal.decreases-digits
decreases-digits l = length l.rest
