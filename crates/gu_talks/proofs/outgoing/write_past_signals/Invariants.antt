use Rattle.std.specs.Io.KnownBytes.{Keeps}
use Rattle.gu_talks.proofs.outgoing.write_past_signals.Given as goal

abbrev pub invariant-loop-signal : goal.invariant-loop-signal
invariant-loop-signal g l = Keeps (g.T.Write.contents l.initial.stream) (g.T.Write.contents l.stream)
