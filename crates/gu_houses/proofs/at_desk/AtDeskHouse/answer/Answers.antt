use Rattle.gu_houses.specs.SeatHouse.{rules_of_seat}
use Rattle.gu_houses.proofs.TellingLemmas.{answers_command}
use Rattle.gu_houses.proofs.at_desk.AtDeskHouse.answer.Goals as goal

pub returns-in-Enter-clause-answered : goal.returns-in-Enter-clause-answered
returns-in-Enter-clause-answered g c =
    answers_command (rules_of_seat g.E.EntryLedger.reference) c.args.self.now c.enter.new.self c.args.ask c.args.from c.in-Enter.command c.enter.result c.in-Enter.is
    c.enter.ensures.outcome c.enter.ensures.told
