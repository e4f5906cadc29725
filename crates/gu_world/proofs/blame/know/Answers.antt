use Rattle.gu_world.proofs.Words.{◌++◌, ◌∷◌, [], Result, Ok, Err, length, replicate, sym, ap, ◌∙◌, Entry, Asked, own_of}
use Rattle.std.specs.Result.{OnOk}
use Rattle.gu_terms.specs.declared.reply.Reply.TheVariants.{Accepted}
use Rattle.gu_world.proofs.BlameLemmas.{own-lines}
use Rattle.gu_world.proofs.blame.know.Goals as goal

on_ok : {T E P Q : Type 0} (r : Result T E) → (P → Q) → OnOk r P → OnOk r Q
on_ok (Ok x) f p = f p
on_ok (Err e) f p = tt

pub returns : goal.returns
returns c = λ before known.
    let group = c.args.group.now in
    let reply = c.in-Accepted.is ∙ ap Accepted c.in-Offered.is in
    let entry = c.in-Asked.is ∙ (λ i. Asked (c.in-GiveUp.is i) (reply i)) in
    let more = own-lines before group c.in-Offered.at c.in-GiveUp.give_up c.in-Offered.first c.in-Offered.count in
    on_ok c.push_own.result
    (λ pushed.
    pushed
    ∙ (λ i. known i ++ replicate (length (c.as_slice.ensures.lines i)) (c.eq.ensures i))
    ∙ sym more
    ∙ ap (λ (e : Entry). own_of (before ++ e ∷ []) group) (sym entry))
    c.push_own.ensures
