use Rattle.std.proofs.Common.{take}
use Rattle.std.specs.Str.Parse.{AllDigits}
use Rattle.gu_terms.proofs.number_text.are_digits.Given as goal

abbrev pub invariant-loop-byte : goal.invariant-loop-byte
invariant-loop-byte l = AllDigits 10 (take l.byte-index l.bytes)
