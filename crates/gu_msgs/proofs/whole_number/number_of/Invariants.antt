use Rattle.gu_msgs.proofs.Words.{◌≡◌, take, digits_value}
use Rattle.gu_msgs.proofs.whole_number.number_of.Given as goal

abbrev pub invariant-loop-digit : goal.invariant-loop-digit
invariant-loop-digit l = l.number ≡ digits_value 10 (take l.digit-index l.text)
