use Rattle.gu_sockets.specs.Doorways.{KeepsListeners}
use Rattle.gu_sockets.proofs.firm_ways.FirmWays.accept_among.Given as goal

abbrev pub invariant-loop-place : goal.invariant-loop-place
invariant-loop-place g l = KeepsListeners l.initial.self l.self
