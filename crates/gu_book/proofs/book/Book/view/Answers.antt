use Rattle.gu_book.proofs.Words.{◌+◌, ◌<◌, ◌^◌, ◌∙◌, ap, arith, subst, sym, BookState, IsShown, group_view, version_in}
use Rattle.gu_rules.proofs.LegalOrder.{legal_ordered}
use Rattle.gu_book.proofs.BookViews.{view-is}
use Rattle.gu_book.proofs.CountedLemmas.{versions-fit}
use Rattle.gu_book.proofs.book.Book.view.Goals as goal

pub view_of-requires-clause-version : goal.view_of-requires-clause-version
view_of-requires-clause-version c =
    let old = c.self.inside in
    let fits : version_in old.versions c.args.group.now + 1 < 2 ^ 64 = versions-fit old.history old.versions c.self.invariant.entries.counted c.self.invariant.entries.legal.within c.args.group.now in
    omega (arith, fits)

pub view_of-requires-clause-few : goal.view_of-requires-clause-few
view_of-requires-clause-few c =
    let old = c.self.inside in
    subst (IsShown old.reference) (sym c.self.invariant.entries.kept.beside.offers) (legal_ordered old.reference old.history c.self.invariant.entries.legal).shown

pub returns-clause-view : goal.returns-clause-view
returns-clause-view c =
    let old = c.self.inside in
    let group = c.args.group.now in
    c.in_ok-view_of.ensures.view
    ∙ view-is old.reference old.history old.totals old.versions group c.self.invariant.entries.kept.beside c.self.invariant.entries.counted
    ∙ ap (λ (k : BookState). group_view k.reference k.history group) c.self.view_is
