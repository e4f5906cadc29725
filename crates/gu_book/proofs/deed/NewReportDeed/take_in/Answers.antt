use Rattle.gu_book.proofs.Accepting.{on_ok_two}
use Rattle.gu_book.proofs.TakenIn.{made-fits, made-taken}
use Rattle.gu_book.proofs.deed.NewReportDeed.take_in.Goals as goal

pub report-requires-clause-fits : goal.report-requires-clause-fits
report-requires-clause-fits c =
    let it = c.requires.1 in
    made-fits c.requires.0 c.args.totals.now it.command c.args.self.now.report.now c.args.self.now.today c.args.self.now.waiting it.may it.is

pub returns-clause-taken : goal.returns-clause-taken
returns-clause-taken c =
    let old = c.args.totals.now in
    let new = c.report.new.self in
    let at = c.args.self.now in
    let e = c.report.ensures in
    on_ok_two c.report.result (λ trades positions reference command is. made-taken reference old new command at.report.now at.today at.waiting is e.today e.give_ups e.offers e.limits trades positions) e.trades e.positions
