use Rattle.gu_notices.proofs.Words.{sym, ◌∙◌, register_in}
use Rattle.gu_notices.proofs.RecipientLemmas.{event-held}
use Rattle.gu_notices.proofs.firm_filter.FirmFilter.add_event.Goals as goal

pub returns-in-Some-clause-added : goal.returns-in-Some-clause-added
returns-in-Some-clause-added c event lots later grows =
    let o = c.in-Some.offer in
    event-held (register_in c.args.register.now) later c.args.number event lots o c.add_carrier.new.self grows (sym c.offer.ensures ∙ c.in-Some.is) (c.add_carrier.ensures.kept o.firm c.add.ensures.added) c.add_carrier.ensures.added
