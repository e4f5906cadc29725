use Rattle.gu_positions.proofs.Words.{◌∙◌, [], ◌∷◌, Some, slice_get, sym, insert_entry-new, Symbol, same_symbol, same_symbol-true, found_key}
use Rattle.gu_terms.proofs.Found.{by_name}
use Rattle.gu_positions.proofs.RowNumbers.{slice_get-append, slice_get-last}
use Rattle.gu_positions.proofs.positions.know.Goals as goal

pub returns-in-Some-clause-at : goal.returns-in-Some-clause-at
returns-in-Some-clause-at c =
    let found = c.in-Some in
    let one = found_key same_symbol (by_name (λ (s : Symbol). s.name)) same_symbol-true c.args.symbol.now c.args.interests.now.entries found.field-0-1.now found.ensures.key in
    record { value = found.field-0-2.now; here = found.ensures.entry ∙ (λ i. Some (one i, found.field-0-2.now)) }

pub returns-clause-at : goal.returns-clause-at
returns-clause-at c =
    let is = c.in_ok-insert.ensures.entries ∙ insert_entry-new same_symbol c.args.interests.now c.args.symbol.now 0 (sym c.in_default.ensures.value) in
    record { value = 0; here = (λ i. slice_get (is i) (c.len-place.ensures.len i)) ∙ slice_get-last c.args.interests.now.entries (c.args.symbol.now, 0) }

pub returns-clause-stay : goal.returns-clause-stay
returns-clause-stay c = λ symbol place stands.
    let is = c.in_ok-insert.ensures.entries ∙ insert_entry-new same_symbol c.args.interests.now c.args.symbol.now 0 (sym c.in_default.ensures.value) in
    record { value = stands.value; here = (λ i. slice_get (is i) place) ∙ slice_get-append c.args.interests.now.entries ((c.args.symbol.now, 0) ∷ []) place (symbol, stands.value) stands.here }
