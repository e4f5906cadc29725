use Rattle.std.proofs.Common.{None, Some, refl}
use Rattle.gu_terms.proofs.path.Path.new.Goals as goal
use Rattle.gu_terms.proofs.path.Path.new.Goals.{in-None, in-Some}

pub invariant_of-result : goal.invariant_of-result
invariant_of-result c =
    elim c.match-guarantor.branch [
      | in-None w ↦ rw w.keys-is (refl, (c.args.executing, c.args.agreement, c.args.account, c.args.carrying, None, refl))
      | in-Some w ↦ rw w.keys-is (refl, (c.args.executing, c.args.agreement, c.args.account, c.args.carrying, Some w.in-Some.firm, refl))
    ]
