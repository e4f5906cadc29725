use Rattle.gu_book.proofs.Words.{◌∙◌, IfOk, subst, sym, BookState, IsStretch, IsStretchOf, Register, AreRecipients}
use Rattle.gu_notices.specs.Registers.{register_in}
use Rattle.gu_book.proofs.TellingLemmas.{register-is}
use Rattle.gu_book.proofs.book.Book.stretch.Goals as goal

pub returns : goal.returns
returns c =
    let old = c.self.inside in
    let stretch = c.stretch_of.result in
    let written = c.register_of-register.ensures ∙ register-is old.reference old.history old.totals c.self.invariant.entries.kept.beside in
    let told = subst (λ (r : Register). IfOk stretch (IsStretchOf r old.history c.args.firm c.args.from)) written c.stretch_of.ensures in
    subst (λ (k : BookState). IfOk stretch (IsStretch k c.args.firm c.args.from)) c.self.view_is told

pub stretch_of-requires-clause-recipients : goal.stretch_of-requires-clause-recipients
stretch_of-requires-clause-recipients c =
    let old = c.self.inside in
    let written = c.register_of-register.ensures ∙ register-is old.reference old.history old.totals c.self.invariant.entries.kept.beside in
    subst (AreRecipients (register_in c.register_of-register.result) old.history) (sym c.deref.ensures.value)
    (subst (λ (r : Register). AreRecipients r old.history old.recipients.items) (sym written) c.self.invariant.told)
