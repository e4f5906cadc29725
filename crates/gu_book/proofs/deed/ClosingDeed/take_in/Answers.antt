use Rattle.gu_book.proofs.Words.{subst, sym, Row, row_at, TakesIn}
use Rattle.gu_book.proofs.Accepting.{refusal-taken}
use Rattle.gu_book.proofs.DeedLemmas.{found-some}
use Rattle.gu_book.proofs.deed.ClosingDeed.take_in.Goals as goal

pub close-requires : goal.close-requires
close-requires c =
    let at = c.args.self.now in
    found-some (λ (r : Row). r.offer.group) (row_at c.args.totals.now.offers at.number) at.group c.requires.1.is.group_is

pub returns-clause-taken : goal.returns-clause-taken
returns-clause-taken c reference command is =
    let old = c.args.totals.now in
    let new = c.close.new.self in
    let e = c.close.ensures in
    subst (TakesIn reference old new) (sym is.is)
    (refusal-taken reference old new c.args.self.now.number e.entries e.offers e.limits e.positions is.firm is.why)
