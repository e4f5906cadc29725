use Rattle.gu_ref.proofs.KeptAgreements.{add-keeps}
use Rattle.gu_ref.proofs.agreements.Agreements.push.Goals as goal

pub invariant_of-self : goal.invariant_of-self
invariant_of-self c =
    (add-keeps c.self.inside _ c.args.self.now c.args.agreement c.add.result c.self.view_is c.self.invariant c.requires.name c.requires.pair c.add.ensures.named c.add.ensures.paired c.add.ensures.err).0

pub returns : goal.returns
returns c =
    (add-keeps c.self.inside (record { rows = c.add.new.rows; pairs = c.add.new.pairs }) c.args.self.now c.args.agreement c.add.result c.self.view_is c.self.invariant c.requires.name c.requires.pair c.add.ensures.named c.add.ensures.paired c.add.ensures.err).1
