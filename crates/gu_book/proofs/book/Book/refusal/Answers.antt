use Rattle.gu_book.proofs.Words.{◌≡◌, ◌∙◌, ◌<◌, ap, length, subst, sym, is_group, BookState, version_of, IsCurrent, IsForeign}
use Rattle.gu_book.proofs.CurrentViews.{shows-view, view-shows}
use Rattle.gu_book.proofs.book.Book.refusal.Goals as goal

pub returns-then-not-shows_all : goal.returns-then-not-shows_all
returns-then-not-shows_all c =
    let old = c.self.inside in
    let view = c.args.view.now in
    let current = subst (λ (k : BookState). (length k.history < 1000000) × (view.version ≡ version_of k.history view.group)) (sym c.self.view_is) c.in_default.ensures in
    subst (λ (k : BookState). IsForeign k view) c.self.view_is
    (record {
      room = current.0;
      untouched = current.1;
      other = λ current.
          let shows = view-shows old.reference old.history old.totals c.self.invariant.entries.kept.beside view current.same in
          let no = c.shows_all.ensures.shown.1 shows in cc;
    })

pub returns : goal.returns
returns c =
    let old = c.self.inside in
    let view = c.args.view.now in
    let current = subst (λ (k : BookState). (length k.history < 1000000) × (view.version ≡ version_of k.history view.group)) (sym c.self.view_is) c.in_default.ensures in
    subst (λ (k : BookState). IsCurrent k view) c.self.view_is
    (record {
      room = current.0;
      known = ap (is_group old.reference) (sym c.group.ensures) ∙ sym c.if-not-group.ensures;
      same = shows-view old.reference old.history old.totals c.self.invariant.entries.kept.beside view c.shows_all.ensures.sound current.1 (c.shows_all.ensures.shown.0 c.if-not-shows_all.false);
    })
