use Rattle.std.proofs.Common.{IfSome, sym, subst}
use Rattle.gu_terms.specs.declared.notice.Stretch.{Stretch}
use Rattle.gu_desk.specs.Seats.{SeatState}
use Rattle.gu_houses.specs.SeatHouse.{SeatTells}
use Rattle.gu_houses.proofs.SeatLemmas.{told_then}
use Rattle.gu_houses.proofs.TellingLemmas.{if_some}
use Rattle.gu_houses.proofs.at_desk.AtDesk.enter.Goals as goal

pub returns-in-Ok-clause-told : goal.returns-in-Ok-clause-told
returns-in-Ok-clause-told g c =
    subst (λ (seat : SeatState). IfSome c.in-Ok.entered.stretch (λ (s : Stretch). SeatTells g.E.EntryLedger.reference seat c.args.asking.firm c.args.from s seat)) (sym c.order.ensures)
    (if_some c.in-Ok.entered.stretch (λ (s : Stretch) asked. told_then _ _ _ _ c.args.asking.firm c.args.from s c.in-Ok.ensures.entered asked) c.in-Ok.ensures.told)
