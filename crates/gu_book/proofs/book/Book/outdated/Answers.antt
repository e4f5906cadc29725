use Rattle.gu_book.proofs.Words.{◌≡◌, ◌∙◌, ◌+◌, ◌<◌, ◌^◌, ap, arith, length, subst, sym, BookState, version_of, version_in}
use Rattle.gu_book.proofs.CountedLemmas.{versions-fit}
use Rattle.gu_book.proofs.book.Book.outdated.Goals as goal

pub of-now-requires : goal.of-now-requires
of-now-requires c =
    let old = c.self.inside in
    let fits : version_in old.versions c.group.result + 1 < 2 ^ 64 = versions-fit old.history old.versions c.self.invariant.entries.counted c.self.invariant.entries.legal.within c.group.result in
    omega (arith, fits)

pub returns : goal.returns
returns c =
    let old = c.self.inside in
    let view = c.args.view.now in
    let version : view.version ≡ version_of old.history view.group =
    sym c.version-seen.ensures ∙ c.if-seen-now.false ∙ c.of-now.ensures ∙ c.self.invariant.entries.counted.each c.group.result ∙ ap (version_of old.history) c.group.ensures in
    subst (λ (k : BookState). (length k.history < 1000000) × (view.version ≡ version_of k.history view.group)) c.self.view_is
    (omega (arith, c.if-len-ge-MOST_ENTRIES.false, c.len.ensures), version)
