use Rattle.std.proofs.Common.{◌≡◌, take}
use Rattle.gu_text.proofs.listed_cut.keys_in.Given as goal

abbrev pub invariant-loop-listed : goal.invariant-loop-listed
invariant-loop-listed l = l.keys.items ≡ take l.listed-index l.set.keys
