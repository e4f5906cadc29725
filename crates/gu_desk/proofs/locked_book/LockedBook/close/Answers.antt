use Rattle.gu_desk.proofs.Words.{List, All, subst, Entry, SeatState}
use mathlib.Core.List.{IsPrefix}
use Rattle.gu_desk.proofs.locked_book.LockedBook.close.Goals as goal

pub returns-clause-seen : goal.returns-clause-seen
returns-clause-seen g c =
    subst (λ (h : List Entry). All (λ (s : SeatState). IsPrefix s.front h) c.args.seats.items) c.self.invariant.1 c.gather.ensures.seen
