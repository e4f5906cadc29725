use Rattle.std.proofs.Common.{All, IfSome, List, subst, sym}
use Rattle.gu_terms.specs.declared.entry.Entry.{Entry}
use Rattle.gu_desk.specs.Seats.{IsNew, SeatState}
use Rattle.gu_keeping.specs.Chains.{IsChainOf}
use Rattle.gu_server.proofs.day.open_desk.Goals as goal

-- the journal has the entries with which the desk's history begins
pub pen_of-requires-clause-chain : goal.pen_of-requires-clause-chain
pen_of-requires-clause-chain g c =
    subst (λ (h : List Entry). IfSome c.args.opening.journal (λ j. IsChainOf j.chain h)) c.requires.history.1 c.args.opening.journaled

-- the seats are as the desk made them
pub with_receipts-requires : goal.with_receipts-requires
with_receipts-requires g c =
    subst (λ (seats : List SeatState). All (IsNew g.E.EntryLedger.opening) seats) (sym c.front_of-front.ensures.seats) c.in_ok-desk.ensures
