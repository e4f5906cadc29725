use Rattle.std.specs.Io.KnownBytes.{Keeps}
use Rattle.gu_talks.proofs.incoming.read_past_signals.Given as goal

abbrev pub invariant-loop-signal : goal.invariant-loop-signal
invariant-loop-signal g l = Keeps (g.T.Read.remaining l.initial.stream) (g.T.Read.remaining l.stream)
