use Rattle.std.proofs.Common.{◌≡◌, ◌≤◌, length}
use Rattle.gu_text.specs.Words.{words_of}
use Rattle.gu_text.proofs.words.after_blanks.Given as goal

abbrev pub invariant-blanks : goal.invariant-blanks
invariant-blanks l = (words_of l.rest ≡ words_of l.text) × (length l.rest ≤ length l.text)

abbrev pub decreases-blanks : goal.decreases-blanks
decreases-blanks l = length l.rest
