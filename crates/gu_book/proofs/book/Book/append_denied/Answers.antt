use Rattle.gu_book.proofs.Words.{◌≡◌, ◌++◌, ◌∷◌, ◌+◌, [], arith, length, refl, subst, sym, Asked, Denied, answer, BookState, StandsLast, stands_last, AreVersions, few_sides}
use Rattle.gu_book.specs.declared.versions.Touched.TheVariants.{Nothing}
use Rattle.gu_book.proofs.Beginning.{legal-denied}
use Rattle.gu_book.proofs.CountedLemmas.{denied-touches, versions-push}
use Rattle.gu_book.proofs.TellingLemmas.{whole-more}
use Rattle.gu_book.proofs.book.Book.append_denied.Goals as goal

pub invariant_of-self-2 : goal.invariant_of-self-2
invariant_of-self-2 c =
    let old = c.self.inside in
    let command = c.args.command.now in
    let entry = Asked command (Denied c.args.why.now) in
    let room = rw (sym c.self.view_is) at c.requires.room in
    let is : Denied c.args.why.now ≡ answer old.reference old.history command = rw (sym c.self.view_is) at c.requires.answered in
    let counted : AreVersions (old.history ++ entry ∷ []) old.versions =
    versions-push old.history entry old.versions old.versions Nothing c.self.invariant.entries.counted (denied-touches old.history command c.args.why.now) (λ group. refl) (omega arith) in
    let kept = legal-denied old.reference old.history old.totals old.versions old.versions command (Denied c.args.why.now) c.self.invariant.entries room c.requires.asked is refl counted in
    let whole = whole-more old.reference old.history entry old.totals old.versions old.recipients.items c.self.invariant.told kept (λ id. few_sides _ (c.rules.ensures.sound.sides id)) in
    rw (sym c.in_ok-push_asked.ensures.added) at whole

pub returns-clause-stands : goal.returns-clause-stands
returns-clause-stands c =
    let old = c.self.inside in
    let entry = Asked c.args.command.now (Denied c.args.why.now) in
    subst (λ (k : BookState). StandsLast k.reference (length k.history + 1) entry) c.self.view_is
    (stands_last old.reference old.history entry c.self.invariant.entries.legal (rw (sym c.self.view_is) at c.requires.room) c.requires.asked (rw (sym c.self.view_is) at c.requires.answered))
