use Rattle.gu_book.proofs.Words.{◌∙◌, subst, sym, Register, AreRecipients}
use Rattle.gu_book.proofs.TellingLemmas.{register-is}
use Rattle.gu_book.proofs.book.Book.note_recipients.Goals as goal

pub note_recipients-requires : goal.note_recipients-requires
note_recipients-requires c =
    let old = c.self.inside in
    let written = c.register_of-register.ensures ∙ register-is old.reference old.history old.totals c.self.invariant.entries.kept.beside in
    subst (λ (r : Register). AreRecipients r old.history old.recipients.items) (sym written) c.self.invariant.told

pub invariant_of-self : goal.invariant_of-self
invariant_of-self c =
    let old = c.self.inside in
    let written = c.register_of-register.ensures ∙ register-is old.reference old.history old.totals c.self.invariant.entries.kept.beside in
    record {
      entries = c.self.invariant.entries;
      told = subst (λ (r : Register). AreRecipients r old.history c.note_recipients.new.recipients.items) written c.note_recipients.ensures;
    }
