use Rattle.gu_book.proofs.Words.{◌≡◌, ◌≤◌, ℕ, ◌+◌, ◌-◌, ◌∙◌, List, Some, length, slice_get, ap, arith, subst, sym, slice_get-get_or, Id, Report, with_match, BookState, FirmFilter, few_sides, HoldsInformed}
use Rattle.gu_book.proofs.InformingLemmas.{informed-noted}
use Rattle.gu_book.proofs.book.Book.informs.Goals as goal

pub returns-in-Some : goal.returns-in-Some
returns-in-Some c =
    let old = c.self.inside in
    let beside = c.self.invariant.entries.kept.beside in
    let firms = c.in-Some.firms in
    let few = subst (λ (rs : List Report). (id : Id) → length (with_match id rs) ≤ 2) beside.reports (λ id. few_sides _ (c.rules.ensures.sound.sides id)) in
    let found = c.in-Some.ensures.lookup.3 in
    let place = c.args.number - 1 in
    let at : slice_get c.deref.result.now place ≡ Some firms.now = slice_get-get_or c.deref.result.now place firms.now found.0 ∙ ap Some (sym (found.1 firms.now)) in
    let noted = subst (λ (sets : List FirmFilter). slice_get sets place ≡ Some firms.now) c.deref.ensures.value at in
    let number : place + 1 ≡ c.args.number = omega (arith, c.if-number-eq0.false) in
    subst (λ (b : BookState). HoldsInformed b c.args.number firms.now) c.self.view_is
    (subst (λ (n : ℕ). HoldsInformed (record { reference = old.reference; history = old.history }) n firms.now) number
    (informed-noted (record { reference = old.reference; history = old.history }) old.recipients.items place firms.now few c.self.invariant.told noted))
