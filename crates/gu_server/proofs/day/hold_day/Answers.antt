use Rattle.gu_server.proofs.day.hold_day.Goals as goal

pub invariant_of-floor : goal.invariant_of-floor
invariant_of-floor g c = record { all_firms = c.requires }
