use Rattle.std.proofs.Common.{◌+◌, ◌≤◌, vec_len}
use Rattle.std.specs.Prelude.{vec_capacity}
use Rattle.gu_server.proofs.crew.Crew.join.Given as goal

abbrev pub invariant-loop-thread : goal.invariant-loop-thread
invariant-loop-thread g l = vec_len l.seats + vec_len l.threads ≤ vec_capacity l.seats

abbrev pub decreases-loop-thread : goal.decreases-loop-thread
decreases-loop-thread g l = vec_len l.threads
