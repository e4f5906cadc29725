-- What an appender keeps.
use Rattle.std.specs.Prelude.{ℕ, List}
use Rattle.gu_etcd.specs.declared.node.Node.{Ghosts}
use Rattle.gu_etcd.specs.declared.appender.Appender.{Appender}

module _ {N : Type 0} {g : Ghosts N} where
  -- the etcd to which it appends
  abbrev pub node_of : Appender N g → N
  node_of appender = appender.node

  -- the entries that it kept, in order: those at the first numbers of the log
  abbrev pub kept_by : Appender N g → List (List ℕ)
  kept_by appender = g.known appender.node

  -- the name under which its desk leads
  abbrev pub leader_of : Appender N g → List ℕ
  leader_of appender = g.leader appender.node
