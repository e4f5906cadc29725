use Rattle.gu_book.proofs.Words.{◌∙◌, ◌-◌, ap, drop, max, subst, sym, BookState, Register, notices_of, told_from, told_to, AreRecipients}
use Rattle.gu_notices.specs.Registers.{register_in}
use Rattle.gu_book.proofs.TellingLemmas.{register-is}
use Rattle.gu_book.proofs.book.Book.notices.Goals as goal

pub returns-clause-list : goal.returns-clause-list
returns-clause-list c =
    let old = c.self.inside in
    let firm = c.args.firm in
    let from = c.args.from in
    let written = c.register_of-register.ensures ∙ register-is old.reference old.history old.totals c.self.invariant.entries.kept.beside in
    c.in_ok-list.ensures
    ∙ (λ i. told_to firm (told_from (written i) (max 1 from) (drop (from - 1) old.history)))
    ∙ ap (λ (k : BookState). notices_of k firm from) c.self.view_is

pub notices_of-requires-clause-recipients : goal.notices_of-requires-clause-recipients
notices_of-requires-clause-recipients c =
    let old = c.self.inside in
    let written = c.register_of-register.ensures ∙ register-is old.reference old.history old.totals c.self.invariant.entries.kept.beside in
    subst (AreRecipients (register_in c.register_of-register.result) old.history) (sym c.deref.ensures.value)
    (subst (λ (r : Register). AreRecipients r old.history old.recipients.items) (sym written) c.self.invariant.told)
