use Rattle.gu_notices.proofs.Words.{◌∙◌, ◌∷◌, [], ap, arith, length, length-append, slice_get, register_in}
use Rattle.gu_notices.proofs.RecipientLemmas.{recipients-push}
use Rattle.gu_notices.proofs.recipients.note_recipients.Goals as goal

pub loop-place-preserved : goal.loop-place-preserved
loop-place-preserved c =
    let history = c.args.history.now in
    let before = c.loop-place.recipients.items in
    let firms = c.recipients_of-firms.result in
    let entry = c.show.result in
    let at = ap (slice_get history) c.loop-place.invariant.next ∙ c.show.ensures in
    let known = recipients-push (register_in c.args.register.now) history before entry firms c.loop-place.invariant.known at c.recipients_of-firms.ensures in
    record {
      known = rw c.in_ok-push.ensures.items known;
      next = omega (arith, ap length c.in_ok-push.ensures.items, length-append before (firms ∷ []), c.loop-place.invariant.next);
    }
