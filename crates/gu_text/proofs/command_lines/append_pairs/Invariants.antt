use Rattle.std.proofs.Common.{◌≡◌, ◌++◌, take}
use Rattle.std.specs.List.{flat_map}
use Rattle.gu_text.specs.Texts.{word}
use Rattle.gu_text.specs.WrittenCommands.{pair_words}
use Rattle.gu_text.proofs.command_lines.append_pairs.Given as goal

abbrev pub invariant-loop-line : goal.invariant-loop-line
invariant-loop-line l = l.output.items ≡ l.initial.output.items ++ flat_map word (pair_words (take l.line-index l.lines))
