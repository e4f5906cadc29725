use Rattle.gu_notices.proofs.FilterLemmas.{holds-every}
use Rattle.gu_notices.proofs.firm_filter.FirmFilter.add_all.Goals as goal

pub returns : goal.returns
returns c = holds-every
