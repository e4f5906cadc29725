use Rattle.gu_desk.proofs.Words.{List, sym, ◌∙◌, arith, subst, ap, take, Entry}
use mathlib.Core.List.{IsPrefix}
use Rattle.gu_desk.proofs.AnnalsMoves.{cuts}
use Rattle.gu_desk.proofs.Fronts.{take_begins}
use Rattle.gu_desk.proofs.annals.Annals.cut_as.Goals as goal

pub split_seat-seat-requires : goal.split_seat-seat-requires
split_seat-seat-requires g c =
    let i = c.self.invariant in
    let log = c.self.inside.keeper.me.0.log in
    let p = subst (λ (l : List Entry). IsPrefix l log) (sym (c.requires.entries ∙ ap (take c.args.count) (sym c.self.view_is))) (take_begins c.args.count log) in
    (i.2 ∙ sym i.0, omega (arith, i.1), cuts _ _ _ i.4 p)
