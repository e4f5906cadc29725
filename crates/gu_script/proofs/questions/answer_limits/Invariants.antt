use Rattle.gu_script.proofs.Words.{◌≡◌, ◌++◌, take, flat_map}
use Rattle.gu_text.specs.Rows.{limit_text}
use Rattle.gu_script.proofs.questions.answer_limits.Given as goal

abbrev pub invariant-loop-row : goal.invariant-loop-row
invariant-loop-row l = l.output.items ≡ l.initial.output.items ++ flat_map (limit_text l.group) (take l.row-index l.row-items)
