use Rattle.gu_msgs.proofs.Words.{◌≡◌, take, AllDigits, digits_value}
use Rattle.gu_msgs.proofs.whole_number.short_number.Given as goal

abbrev pub invariant-loop-byte : goal.invariant-loop-byte
invariant-loop-byte l = record {
  all : AllDigits 10 (take l.byte-index l.text);
  value : l.number ≡ digits_value 10 (take l.byte-index l.text);
}
