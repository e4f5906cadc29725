use Rattle.std.proofs.Common.{sym, ◌∙◌, arith}
use Rattle.gu_desk.proofs.AnnalsMoves.{copies}
use Rattle.gu_desk.proofs.annals.Annals.copy.Goals as goal

pub split_seat-seat-requires : goal.split_seat-seat-requires
split_seat-seat-requires g c =
    let i = c.self.invariant in
    (c.front.invariant.0 ∙ sym i.0, omega (arith, i.1), copies _ _)
