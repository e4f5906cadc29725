use Rattle.gu_desk.proofs.Words.{◌≡◌, ◌∙◌, ◌+◌, ◌-◌, ◌++◌, List, ap, arith, drop, subst, sym, take, take-add, Entry}
use mathlib.Core.List.{IsPrefix}
use Rattle.gu_desk.proofs.Fronts.{first_entries}
use Rattle.gu_desk.proofs.locked_book.LockedBook.entries_from.Goals as goal

pub returns-clause-grown : goal.returns-clause-grown
returns-clause-grown g c =
    let history = c.history-history.result.now in
    let front = c.args.front.now in
    let place = c.count-place.result in
    let next = c.copy_entries-copied.new.place in
    let known : c.self.inside.annals ≡ history = c.self.invariant.1 ∙ sym c.history-history.ensures.history in
    let begins = subst (IsPrefix front) known c.compare.ensures.begins in
    let first : take place history ≡ front = ap (λ n. take n history) c.count-place.ensures ∙ first_entries front history begins in
    let on : next ≡ place + (next - place) = omega (arith, c.copy_entries-copied.ensures.within.0) in (
      take (next - place) (drop place history),
      c.cut.ensures.front
          ∙ ap (take next) (c.compare.ensures.same ∙ known)
          ∙ ap (λ n. take n history) on
          ∙ take-add place (next - place) history
          ∙ ap (λ (es : List Entry). es ++ take (next - place) (drop place history)) first,
      c.copy_entries-copied.ensures.copied,
    )
