use Rattle.gu_rules.specs.Limits.{path_after}
use Rattle.gu_book.proofs.Accepting.{on_ok_three, reversal-fits, reversal-taken}
use Rattle.gu_book.proofs.deed.ReversalDeed.take_in.Goals as goal

pub reverse-requires-clause-used : goal.reverse-requires-clause-used
reverse-requires-clause-used c =
    let it = c.requires.1 in
    (path_after c.requires.0 it.is.found.offer, (reversal-fits c.requires.0 c.args.totals.now it.command c.args.self.now.reversed it.may it.is).0)

pub reverse-requires-clause-there : goal.reverse-requires-clause-there
reverse-requires-clause-there c =
    let it = c.requires.1 in
    (reversal-fits c.requires.0 c.args.totals.now it.command c.args.self.now.reversed it.may it.is).1

pub returns-clause-taken : goal.returns-clause-taken
returns-clause-taken c =
    let old = c.args.totals.now in
    let new = c.reverse.new.self in
    let e = c.reverse.ensures in
    on_ok_three c.reverse.result (λ offers limits positions reference command is. reversal-taken reference old new command c.args.self.now.reversed is e.entries offers limits positions) e.offers e.limits e.positions
