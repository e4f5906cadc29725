use Rattle.gu_book.proofs.Words.{◌≤◌, ◌+◌, ◌∙◌, List, length, subst, Id, Report, with_match, BookState, Register, Covers, few_sides, HoldsInformed}
use Rattle.gu_book.proofs.InformingLemmas.{informed-at}
use Rattle.gu_book.proofs.TellingLemmas.{register-is}
use Rattle.gu_book.proofs.book.Book.recipients_at.Goals as goal

pub returns : goal.returns
returns c =
    let old = c.self.inside in
    let beside = c.self.invariant.entries.kept.beside in
    let written = c.register_of-register.ensures ∙ register-is old.reference old.history old.totals beside in
    let covers = subst (λ (r : Register). Covers r c.show.result c.recipients_of.result) written c.recipients_of.ensures in
    let few = subst (λ (rs : List Report). (id : Id) → length (with_match id rs) ≤ 2) beside.reports (λ id. few_sides _ (c.rules.ensures.sound.sides id)) in
    subst (λ (b : BookState). HoldsInformed b (c.args.place + 1) c.recipients_of.result) c.self.view_is
    (informed-at (record { reference = old.reference; history = old.history }) c.args.place c.show.result c.recipients_of.result few c.show.ensures covers)
