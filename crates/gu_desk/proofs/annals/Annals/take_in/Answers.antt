use Rattle.std.proofs.Common.{sym, ◌∙◌, arith}
use Rattle.gu_desk.proofs.AnnalsMoves.{takes_in, compares}
use Rattle.gu_desk.proofs.annals.Annals.take_in.Goals as goal

pub join_seat-requires : goal.join_seat-requires
join_seat-requires g c =
    let i = c.self.invariant in
    (i.2 ∙ sym i.0, c.front.invariant.0 ∙ sym i.0, c.front.invariant.1, omega (arith, i.1), takes_in _ _ _ _ i.4)

pub load-requires : goal.load-requires
load-requires g c =
    let i = c.self.invariant in
    (c.join_seat.ensures.0 ∙ i.2 ∙ sym i.0, omega (arith, i.1), compares _ _ _)
