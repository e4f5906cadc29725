use Rattle.gu_limits.proofs.Words.{◌∙◌, ap, sym, option_map}
use Rattle.gu_limits.proofs.RowsBetween.{partner-none, partner-path}
use Rattle.gu_limits.proofs.paths.path_between.Goals as goal

pub returns-in_err-partner-clause-agreement : goal.returns-in_err-partner-clause-agreement
returns-in_err-partner-clause-agreement c =
    ap (option_map (λ p. p.0)) c.from_residual.ensures
    ∙ sym (partner-none c.args.reference.now c.rules.ensures.sound c.args.executing c.args.account (sym c.partner.ensures ∙ c.in_err-partner.was))

pub returns-clause-agreement : goal.returns-clause-agreement
returns-clause-agreement c =
    sym (partner-path c.args.reference.now c.rules.ensures.sound c.args.executing c.args.account c.in_ok-partner.partner (sym c.partner.ensures ∙ c.in_ok-partner.was)).0
