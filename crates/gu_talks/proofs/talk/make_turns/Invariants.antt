use Rattle.std.proofs.Common.{ℕ, IfOk}
use Rattle.gu_talks.specs.Sources.{left_ahead}
use Rattle.gu_talks.specs.Turns.{TurnsOn, spot}
use Rattle.gu_talks.proofs.talk.make_turns.Given as goal

-- so far turns were made, one after another
abbrev pub invariant-loop-turn : goal.invariant-loop-turn
invariant-loop-turn g l =
    IfOk l.turned (λ became. (more : ℕ) × TurnsOn g.A.Answerer.engine (left_ahead g.I.Read.remaining) more
    (spot l.fn.answerer l.fn.ahead l.fn.backlog) became (spot l.answerer l.ahead l.backlog))
