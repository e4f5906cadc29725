use Rattle.gu_sockets.proofs.WayLemmas.{who_came_before}
use Rattle.gu_sockets.proofs.firm_ways.FirmWays.accept.Goals as goal

pub returns-in-None-clause-came : goal.returns-in-None-clause-came
returns-in-None-clause-came g c =
    who_came_before _ _ _ c.accept_among.new.self _ c.in_ok-arrival.ensures.listeners c.accept_among-in-None.ensures.came
