use Rattle.std.proofs.Common.{◌≡◌, ◌∙◌, sym, ap, is_some, true, false}
use Rattle.gu_limits.proofs.CarriedAccounts.{account_is_there}
use Rattle.gu_limits.proofs.paths.path.Goals as goal

pub returns-in_err-carrying-clause-unknown : goal.returns-in_err-carrying-clause-unknown
returns-in_err-carrying-clause-unknown c =
    let there = account_is_there c.args.reference.now c.rules.ensures.sound c.args.agreement c.in_ok-parties.parties (sym c.agreement.ensures ∙ c.in_ok-parties.was) in
    let never : true ≡ false = sym there ∙ ap is_some (sym c.account.ensures ∙ c.in_err-carrying.was) in (
      λ none. cc,
      λ none. cc,
    )
