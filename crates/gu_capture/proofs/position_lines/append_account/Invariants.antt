use Rattle.std.proofs.Common.{◌≡◌, ◌++◌, take}
use Rattle.std.specs.List.{flat_map}
use Rattle.gu_capture.specs.PositionText.{position_line}
use Rattle.gu_capture.proofs.position_lines.append_account.Given as goal

abbrev pub invariant-loop-instrument : goal.invariant-loop-instrument
invariant-loop-instrument l = l.output.items ≡ l.initial.output.items ++ flat_map (λ i. position_line l.book l.account i.symbol) (take l.instrument-index l.instrument-items)
