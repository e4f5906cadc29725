use Rattle.std.proofs.Common.{ap, inl}
use Rattle.gu_houses.specs.SharedHouse.{SharedSeat}
use Rattle.gu_houses.proofs.ShareLemmas.{entered_after}
use Rattle.gu_houses.proofs.within_shares.WithinShares.enter.Goals as goal

pub returns-in_default-clause-outcome : goal.returns-in_default-clause-outcome
returns-in_default-clause-outcome g c =
    entered_after g.E.EntryLedger.reference c.args.self.now.seat c.self.inside.house c.enter.new.self c.args.command c.enter.result.outcome
    (inl (ap (λ (s : SharedSeat). s.seat) c.self.view_is)) c.enter.ensures.outcome
