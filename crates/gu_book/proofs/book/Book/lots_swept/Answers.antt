use Rattle.gu_book.proofs.Words.{ap, ◌∙◌, arith, subst, AllByRecursion, recursion_from_All, lots_swept, IsSound, BookState}
use Rattle.gu_rules.proofs.SweptLots.{few-swept, sound-small}
use Rattle.gu_book.proofs.book.Book.lots_swept.Goals as goal

pub sum_swept-requires : goal.sum_swept-requires
sum_swept-requires c =
    let old = c.self.inside in
    let sound : AllByRecursion IsSound old.totals.offers = recursion_from_All IsSound old.totals.offers c.rules.ensures.sound in
    let small = sound-small old.history (subst (AllByRecursion IsSound) c.self.invariant.entries.kept.beside.offers sound) in
    omega (arith, few-swept old.reference old.history c.self.invariant.entries.legal small, c.self.invariant.entries.legal.within)

pub returns : goal.returns
returns c = c.sum_swept.ensures ∙ ap (λ (k : BookState). lots_swept k.history) c.self.view_is
