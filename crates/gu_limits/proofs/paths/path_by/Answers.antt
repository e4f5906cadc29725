use Rattle.std.proofs.Common.{◌∙◌, Some, ap, sym}
use Rattle.gu_limits.proofs.RowsBetween.{partner-path}
use Rattle.gu_limits.proofs.paths.path_by.Goals as goal

pub returns-clause-keys : goal.returns-clause-keys
returns-clause-keys c =
    (partner-path c.args.reference.now c.rules.ensures.sound c.args.executing.now c.args.account.now c.args.partner.now c.requires).1 ∙ ap Some (sym c.through.ensures.keys)
