use Rattle.gu_msgs.proofs.OutlineLemmas.{value_fault}
use Rattle.gu_msgs.proofs.outline.Outline.id_text.Goals as goal

pub returns-in-Err-clause-read : goal.returns-in-Err-clause-read
returns-in-Err-clause-read c =
    rw c.fault.ensures
    (value_fault c.args.self.now c.args.place c.required-text.result.now c.in-Err.reason c.requires.row.within c.requires.judged c.required-text.ensures
    (rw c.requires.row.is_row (rw c.in-Err.is at c.id.ensures.judged)))
