use Rattle.std.proofs.Common.{◌≡◌, take}
use Rattle.std.specs.List.{flat_map}
use Rattle.gu_capture.specs.PositionText.{account_text}
use Rattle.gu_capture.proofs.position_lines.positions_text.Given as goal

abbrev pub invariant-loop-row : goal.invariant-loop-row
invariant-loop-row l = l.output.items ≡ flat_map (λ a. account_text l.book a.account) (take l.row-index l.row-items)
