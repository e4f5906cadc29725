use Rattle.gu_msgs.proofs.Words.{◌∙◌, [], Some, ap, arith, refl, err_from_is_err_and, entry_rows, Id, Required, EXEC_ID, NO_EXECS}
use Rattle.gu_msgs.proofs.OutlineLemmas.{entry_first, entry_refused, entry_sound, tag_stands}
use Rattle.gu_msgs.proofs.allocation_instruction.entry_exec.Goals as goal

pub text_at-requires : goal.text_at-requires
unfolding entry_rows
text_at-requires c = tag_stands (entry_rows NO_EXECS) c.args.entry.now 0 c.requires (omega arith) refl

pub returns-in_err-id : goal.returns-in_err-id
unfolding entry_rows
returns-in_err-id c =
    let fault = c.in_err-id.field-0.0 in
    let at = c.in_err-id.ensures in
    entry_refused (entry_rows NO_EXECS) c.args.entry.now _ c.from_residual.result fault (err_from_is_err_and _ c.from_residual.ensures.1)
    (entry_first c.args.entry.now (Required EXEC_ID Id) [] c.text_at.result.now fault c.text_at.ensures at.1 (rw at.0 at c.id.ensures.judged))

pub returns : goal.returns
unfolding entry_rows
returns c =
    let id = rw c.in_ok-id.ensures at c.id.ensures.means in (
      c.text_at.ensures ∙ ap Some id,
      (entry_sound c.args.entry.now (Required EXEC_ID Id) c.text_at.result.now c.text_at.ensures (rw c.in_ok-id.ensures at c.id.ensures.judged), tt),
    )
