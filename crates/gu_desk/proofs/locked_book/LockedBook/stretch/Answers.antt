use Rattle.gu_desk.proofs.Words.{◌∙◌, List, subst, sym, Entry}
use Rattle.gu_rules.specs.Notices.{IsStretch}
use Rattle.gu_desk.proofs.locked_book.LockedBook.stretch.Goals as goal

pub returns-clause-told : goal.returns-clause-told
returns-clause-told g c =
    subst (λ (h : List Entry). IsStretch (record { reference = g.E.EntryLedger.reference; history = h }) c.args.firm c.args.from c.in_ok-stretch.stretch)
    (sym (c.show.ensures.front ∙ c.tell.ensures.same)) c.in_ok-stretch.ensures.told
