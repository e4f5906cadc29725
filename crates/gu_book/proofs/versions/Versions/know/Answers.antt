use Rattle.std.proofs.Common.{refl, sym}
use Rattle.gu_offers.proofs.KeptTables.{none}
use Rattle.gu_book.proofs.CountedLemmas.{version_in-new}
use Rattle.gu_book.proofs.versions.Versions.know.Goals as goal

pub returns-clause-same : goal.returns-clause-same
returns-clause-same c =
    version_in-new c.args.self.now (record { days = c.args.self.now.days; own = c.insert.new.self }) c.args.group.now refl c.in_ok-insert.ensures.updates (none _ (sym c.in_default.ensures.there))
