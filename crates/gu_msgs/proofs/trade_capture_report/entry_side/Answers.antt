use Rattle.gu_msgs.proofs.Words.{◌∙◌, ◌∷◌, [], Some, ap, arith, refl, err_from_is_err_and, IsSoundItem, item_of, entry_rows, Name, Number, Required, ACCOUNT, NO_SIDES, SIDE}
use Rattle.gu_msgs.proofs.OutlineLemmas.{entry_first, entry_refused, entry_second, entry_sound, tag_stands}
use Rattle.gu_msgs.proofs.trade_capture_report.entry_side.Goals as goal

pub text_at-requires : goal.text_at-requires
unfolding entry_rows
text_at-requires c = tag_stands (entry_rows NO_SIDES) c.args.entry.now 0 c.requires (omega arith) refl

pub returns-in_err-side : goal.returns-in_err-side
unfolding entry_rows
returns-in_err-side c =
    let fault = c.in_err-side.field-0.0 in
    let at = c.in_err-side.ensures in
    entry_refused (entry_rows NO_SIDES) c.args.entry.now _ c.from_residual.result fault (err_from_is_err_and _ c.from_residual.ensures.1)
    (entry_first c.args.entry.now (Required SIDE (Number 1 2)) (Required ACCOUNT Name ∷ []) c.text_at.result.now fault c.text_at.ensures at.1 (rw at.0 at c.side.ensures.judged))

pub text_at-requires-2 : goal.text_at-requires-2
unfolding entry_rows
text_at-requires-2 c = tag_stands (entry_rows NO_SIDES) c.args.entry.now 1 c.requires (omega arith) refl

pub returns-in_err-account : goal.returns-in_err-account
unfolding entry_rows
returns-in_err-account c =
    let entry = c.args.entry.now in
    let fault = c.in_err-account.field-0.0 in
    let at = c.in_err-account.ensures in
    let side : IsSoundItem (item_of entry (Required SIDE (Number 1 2))) = entry_sound entry (Required SIDE (Number 1 2)) c.text_at.result.now c.text_at.ensures (rw c.in_ok-side.ensures at c.side.ensures.judged) in
    entry_refused (entry_rows NO_SIDES) entry _ c.from_residual-in_err-account.result fault (err_from_is_err_and _ c.from_residual-in_err-account.ensures.1)
    (entry_second entry (Required SIDE (Number 1 2)) (Required ACCOUNT Name) [] c.text_at-2.result.now fault side c.text_at-2.ensures at.1 (rw at.0 at c.account.ensures.judged))

pub returns : goal.returns
unfolding entry_rows
returns c =
    let entry = c.args.entry.now in
    let side = rw c.in_ok-side.ensures at c.side.ensures.means in
    let account = rw c.in_ok-account.ensures at c.account.ensures.means in (
      record { side_is = rw c.text_at.ensures side.value; account_is = c.text_at-2.ensures ∙ ap Some account },
      (
        entry_sound entry (Required SIDE (Number 1 2)) c.text_at.result.now c.text_at.ensures (rw c.in_ok-side.ensures at c.side.ensures.judged),
        (entry_sound entry (Required ACCOUNT Name) c.text_at-2.result.now c.text_at-2.ensures (rw c.in_ok-account.ensures at c.account.ensures.judged), tt),
      ),
    )
