use Rattle.gu_book.proofs.Words.{◌≡◌, false, sym, subst, ap, ◌∙◌, IfOk-weaker, is_group, BookState, limit_rows}
use Rattle.gu_rules.proofs.UnknownGroups.{unknown_group}
use Rattle.gu_book.proofs.LimitLemmas.{rows-are}
use Rattle.gu_book.proofs.book.Book.limits.Goals as goal

pub returns-clause-rows : goal.returns-clause-rows
returns-clause-rows c =
    let old = c.self.inside in
    let group = c.args.group.now in
    IfOk-weaker c.rows_in_order.result _ _
    (λ rows is.
    is
    ∙ rows-are (record { reference = old.reference; history = old.history }) old.totals group c.self.invariant.entries.kept.beside
    ∙ ap (λ (k : BookState). limit_rows k group) c.self.view_is)
    c.rows_in_order.ensures

pub returns-clause-unknown : goal.returns-clause-unknown
returns-clause-unknown c unknown =
    let old = c.self.inside in
    let book : BookState = record { reference = old.reference; history = old.history } in
    let group = c.args.group.now in
    let inside = subst (λ (k : BookState). is_group k.reference group ≡ false) (sym c.self.view_is) unknown in
    IfOk-weaker c.rows_in_order.result _ _
    (λ rows is. is ∙ rows-are book old.totals group c.self.invariant.entries.kept.beside ∙ unknown_group book group c.self.invariant.entries.legal inside)
    c.rows_in_order.ensures
