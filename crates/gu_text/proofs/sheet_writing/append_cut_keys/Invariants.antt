use Rattle.std.proofs.Common.{◌≡◌, ◌++◌, take}
use Rattle.std.specs.List.{flat_map}
use Rattle.gu_text.specs.SheetText.{cut_key_line}
use Rattle.gu_text.proofs.sheet_writing.append_cut_keys.Given as goal

abbrev pub invariant-loop-room : goal.invariant-loop-room
invariant-loop-room l = l.output.items ≡ l.initial.output.items ++ flat_map (cut_key_line l.cut) (take l.room-index l.rooms)
