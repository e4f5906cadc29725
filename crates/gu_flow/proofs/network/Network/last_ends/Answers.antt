use Rattle.gu_flow.proofs.Linking.{begins_last}
use Rattle.gu_flow.proofs.network.Network.last_ends.Goals as goal

pub returns-clause-current : goal.returns-clause-current
returns-clause-current c = let net = c.args.self.now in rw c.deref.ensures.value (begins_last net.arcs.items net.first.items net.links.items net.is_network.index)
