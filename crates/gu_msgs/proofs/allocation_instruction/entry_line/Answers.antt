use Rattle.gu_msgs.proofs.Words.{◌∙◌, ◌∷◌, [], Some, ap, arith, refl, err_from_is_err_and, IsSoundItem, item_of, entry_rows, Lots, Name, Required, ALLOC_ACCOUNT, ALLOC_QTY, NO_ALLOCS}
use Rattle.gu_msgs.proofs.OutlineLemmas.{entry_first, entry_refused, entry_second, entry_sound, tag_stands}
use Rattle.gu_msgs.proofs.allocation_instruction.entry_line.Goals as goal

pub text_at-requires : goal.text_at-requires
unfolding entry_rows
text_at-requires c = tag_stands (entry_rows NO_ALLOCS) c.args.entry.now 0 c.requires (omega arith) refl

pub returns-in_err-account : goal.returns-in_err-account
unfolding entry_rows
returns-in_err-account c =
    let fault = c.in_err-account.field-0.0 in
    let at = c.in_err-account.ensures in
    entry_refused (entry_rows NO_ALLOCS) c.args.entry.now _ c.from_residual.result fault (err_from_is_err_and _ c.from_residual.ensures.1)
    (entry_first c.args.entry.now (Required ALLOC_ACCOUNT Name) (Required ALLOC_QTY Lots ∷ []) c.text_at.result.now fault c.text_at.ensures at.1 (rw at.0 at c.account.ensures.judged))

pub text_at-requires-2 : goal.text_at-requires-2
unfolding entry_rows
text_at-requires-2 c = tag_stands (entry_rows NO_ALLOCS) c.args.entry.now 1 c.requires (omega arith) refl

pub returns-in_err-lots : goal.returns-in_err-lots
unfolding entry_rows
returns-in_err-lots c =
    let entry = c.args.entry.now in
    let fault = c.in_err-lots.field-0.0 in
    let at = c.in_err-lots.ensures in
    let account : IsSoundItem (item_of entry (Required ALLOC_ACCOUNT Name)) = entry_sound entry (Required ALLOC_ACCOUNT Name) c.text_at.result.now c.text_at.ensures (rw c.in_ok-account.ensures at c.account.ensures.judged) in
    entry_refused (entry_rows NO_ALLOCS) entry _ c.from_residual-in_err-lots.result fault (err_from_is_err_and _ c.from_residual-in_err-lots.ensures.1)
    (entry_second entry (Required ALLOC_ACCOUNT Name) (Required ALLOC_QTY Lots) [] c.text_at-2.result.now fault account c.text_at-2.ensures at.1 (rw at.0 at c.lots.ensures.judged))

pub returns : goal.returns
unfolding entry_rows
returns c =
    let entry = c.args.entry.now in
    let account = rw c.in_ok-account.ensures at c.account.ensures.means in
    let lots = rw c.in_ok-lots.ensures at c.lots.ensures.means in (
      record { account = c.text_at.ensures ∙ ap Some account; lots = record { value = c.text_at-2.result.now; first = c.text_at-2.ensures; such = lots } },
      (
        entry_sound entry (Required ALLOC_ACCOUNT Name) c.text_at.result.now c.text_at.ensures (rw c.in_ok-account.ensures at c.account.ensures.judged),
        (entry_sound entry (Required ALLOC_QTY Lots) c.text_at-2.result.now c.text_at-2.ensures (rw c.in_ok-lots.ensures at c.lots.ensures.judged), tt),
      ),
    )
