use Rattle.std.proofs.Common.{◌≡◌, drop, map}
use Rattle.gu_words.specs.CommandLine.{has_until_closed}
use Rattle.gu_words.proofs.words.has_until_closed.Given as goal

-- what is left has it if all words have it
abbrev pub invariant-loop-word : goal.invariant-loop-word
invariant-loop-word g l = has_until_closed (map g.S.AsStr.text (drop l.word-index l.words)) ≡ has_until_closed (map g.S.AsStr.text l.fn.words)
