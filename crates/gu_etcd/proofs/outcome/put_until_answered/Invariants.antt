use Rattle.std.proofs.Common.{◌≡◌, ◌+◌, ◌≤◌}
use Rattle.gu_etcd.proofs.Asking.{HasAsked}
use Rattle.gu_etcd.proofs.outcome.put_until_answered.Given as goal

-- so far each question was unanswered, and nothing more is known
abbrev pub invariant-loop-attempt : goal.invariant-loop-attempt
invariant-loop-attempt g l = g.N.Node.is_honest l.node
    → (g.N.Node.known l.node ≡ g.N.Node.known l.initial.node)
    × (g.N.Node.counts.failures l.initial.node + l._attempt ≤ g.N.Node.counts.failures l.node)
    × HasAsked g.N.Node l.entry l.initial.node l.node
