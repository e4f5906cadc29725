use Rattle.std.proofs.Common.{◌≡◌, ◌++◌, take}
use Rattle.std.specs.List.{flat_map}
use Rattle.gu_text.specs.WrittenCommands.{take_remark_text}
use Rattle.gu_text.proofs.command_lines.append_takes.Given as goal

abbrev pub invariant-loop-take : goal.invariant-loop-take
invariant-loop-take l = l.output.items ≡ l.initial.output.items ++ flat_map take_remark_text (take l.take-index l.takes)
