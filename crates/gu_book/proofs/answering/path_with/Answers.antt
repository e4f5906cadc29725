use Rattle.gu_book.proofs.Words.{[], unwrap_or, ◌∙◌, ap, sym, option_and_then}
use Rattle.gu_limits.proofs.RowsBetween.{partner-none}
use Rattle.gu_limits.specs.Paths.{path_of}
use Rattle.gu_book.proofs.answering.path_with.Goals as goal

pub returns-in-None-clause-keys : goal.returns-in-None-clause-keys
returns-in-None-clause-keys c =
    let reference = c.args.reference.now in
    let offer = c.args.offer.now in
    let none = partner-none reference c.rules.ensures.sound offer.firm offer.account (sym c.requires ∙ c.in-None.is) in
    sym (ap (λ id. unwrap_or (option_and_then (path_of reference) id) []) none)
