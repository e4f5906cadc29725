use Rattle.gu_ref.proofs.KeptGuarantors.{add-keeps}
use Rattle.gu_ref.proofs.guarantors.Guarantors.push.Goals as goal

pub invariant_of-self : goal.invariant_of-self
invariant_of-self c =
    (add-keeps c.self.inside _ c.args.self.now c.args.row c.add.result c.self.view_is c.self.invariant c.requires c.add.ensures.named c.add.ensures.guarding c.add.ensures.err).0

pub returns : goal.returns
returns c =
    (add-keeps c.self.inside (record { rows = c.add.new.rows; guarantors = c.add.new.guarantors }) c.args.self.now c.args.row c.add.result c.self.view_is c.self.invariant c.requires c.add.ensures.named c.add.ensures.guarding c.add.ensures.err).1
