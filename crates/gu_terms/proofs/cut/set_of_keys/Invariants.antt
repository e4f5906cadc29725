use Rattle.std.proofs.Common.{◌≡◌, take}
use Rattle.gu_terms.proofs.cut.set_of_keys.Given as goal

abbrev pub invariant-loop-key : goal.invariant-loop-key
invariant-loop-key l = l.set.keys ≡ take l.key-index l.keys
