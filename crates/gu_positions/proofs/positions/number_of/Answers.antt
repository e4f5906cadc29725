use Rattle.gu_positions.proofs.Words.{◌∙◌, Some, same_key, found_key}
use Rattle.gu_positions.proofs.Places.{same_key-laws, same_key-true}
use Rattle.gu_positions.proofs.positions.number_of.Goals as goal

pub returns-clause-at : goal.returns-clause-at
returns-clause-at c =
    let found = c.in_ok-number in
    let one = found_key same_key same_key-laws same_key-true c.args.place.now c.args.rows.now.entries found.field-0-1.now found.ensures.key in
    record { value = found.field-0-2.now; here = found.ensures.entry ∙ (λ i. Some (one i, found.field-0-2.now)) }
