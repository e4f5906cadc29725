use Rattle.gu_ref.proofs.Words.{◌∙◌, ap, sym, fields_of, outcome_of}
use Rattle.gu_ref.proofs.Growing.{passes-no_fault}
use Rattle.gu_ref.proofs.RowNames.{row_named}
use Rattle.gu_ref.proofs.reference.Reference.accept.Goals as goal

pub enter-requires : goal.enter-requires
enter-requires c = passes-no_fault _ _ _ (sym c.check.ensures ∙ ap outcome_of c.in_ok-check.was) (row_named (fields_of c.args.fields.now) _ (sym c.row_of.ensures ∙ c.in-Some.is))
