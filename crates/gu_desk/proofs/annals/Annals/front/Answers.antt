use Rattle.std.proofs.Common.{sym, ◌∙◌, arith}
use Rattle.gu_desk.proofs.AnnalsMoves.{tells}
use Rattle.gu_desk.proofs.annals.Annals.front.Goals as goal

pub split_seat-seat-requires : goal.split_seat-seat-requires
split_seat-seat-requires g c =
    let i = c.self.invariant in
    (i.2 ∙ sym i.0, omega (arith, i.1), tells _ _ i.4)
