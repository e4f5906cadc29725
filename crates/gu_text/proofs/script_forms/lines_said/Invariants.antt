use Rattle.std.proofs.Common.{length}
use Rattle.gu_text.specs.Words.{words_of}
use Rattle.gu_text.proofs.FormLemmas.{IsReadTo}
use Rattle.gu_text.proofs.script_forms.lines_said.Given as goal

abbrev pub invariant-pairs : goal.invariant-pairs
invariant-pairs l = IsReadTo (words_of l.words) l.lines.items (words_of l.rest)

abbrev pub decreases-pairs : goal.decreases-pairs
decreases-pairs l = length l.rest
