use Rattle.std.proofs.Common.{sym, ◌∙◌, arith}
use Rattle.gu_desk.proofs.AnnalsMoves.{adds}
use Rattle.gu_desk.proofs.annals.Annals.add_sweep.Goals as goal

pub load-requires : goal.load-requires
load-requires g c =
    let i = c.self.invariant in
    (i.2 ∙ sym i.0, omega (arith, i.1), adds _ _ _ _ i.4)
