use Rattle.gu_notices.proofs.FilterLemmas.{holds-added, holds-still}
use Rattle.gu_notices.proofs.firm_filter.FirmFilter.add.Goals as goal

pub returns-clause-added : goal.returns-clause-added
returns-clause-added c = holds-added c.args.self.now.places c.of.result.number c.args.firm.now c.of.ensures

pub returns-clause-kept : goal.returns-clause-kept
returns-clause-kept c firm held = holds-still c.args.self.now.places _ firm held
