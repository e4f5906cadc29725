use Rattle.std.proofs.Common.{◌≡◌, ◌++◌, take}
use Rattle.std.specs.List.{flat_map}
use Rattle.gu_text.specs.WrittenCommands.{cut_key_remark_text}
use Rattle.gu_text.proofs.command_lines.append_cut_keys.Given as goal

abbrev pub invariant-loop-key : goal.invariant-loop-key
invariant-loop-key l = l.output.items ≡ l.initial.output.items ++ flat_map cut_key_remark_text (take l.key-index l.keys)
