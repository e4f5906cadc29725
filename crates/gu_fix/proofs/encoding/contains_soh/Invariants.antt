use Rattle.std.proofs.Common.{◌≡◌, false, take}
use Rattle.gu_fix.specs.Encoding.{has_soh}
use Rattle.gu_fix.proofs.encoding.contains_soh.Given as goal

abbrev pub invariant-loop-byte : goal.invariant-loop-byte
invariant-loop-byte l = has_soh (take l.byte-index l.value) ≡ false
