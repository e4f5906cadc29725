use Rattle.std.proofs.Common.{sym, ◌∙◌, subst}
use Rattle.gu_etcd.specs.declared.memory_node.MemoryNode.{MemoryNode}
use Rattle.gu_etcd.specs.Log.{IsOf}
use Rattle.etcd_tests.proofs.Nothing.{counts_none, is_own, settled}
use Rattle.etcd_tests.proofs.memory.append.Goals as goal

pub new-requires-clause-counted : goal.new-requires-clause-counted
new-requires-clause-counted c = λ honest. counts_none c.in_ok-node.node c.in_ok-node.ensures.known

pub new-requires-clause-settled : goal.new-requires-clause-settled
new-requires-clause-settled c = λ honest log may. settled c.in_ok-node.node c.in_ok-node.ensures.log c.in_ok-node.ensures.known log may

pub append-requires-clause-own : goal.append-requires-clause-own
append-requires-clause-own c = λ honest.
    subst (λ (node : MemoryNode). IsOf node.leader.items c.deref.result.now) (sym c.new.ensures)
    (is_own c.in_ok-node.node c.in_ok-node.ensures.leader c.deref.result.now (c.deref.ensures.value ∙ c.in_ok-entry.ensures))
