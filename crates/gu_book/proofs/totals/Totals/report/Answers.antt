use Rattle.gu_book.proofs.Words.{arith, made_on, with_match}
use Rattle.gu_book.proofs.GivenUpLemmas.{given-either}
use Rattle.gu_book.proofs.Counterparts.{holds-both, holds-none}
use Rattle.gu_book.proofs.totals.Totals.report.Goals as goal

pub hold-requires-clause-fits : goal.hold-requires-clause-fits
hold-requires-clause-fits c =
    let waiting = c.in-Some.waiting in
    omega (arith, c.make_rows.ensures.same_lots.sums waiting.side waiting.symbol, c.requires.room waiting.side waiting.symbol)

pub hold-requires-2-clause-fits : goal.hold-requires-2-clause-fits
hold-requires-2-clause-fits c =
    let terms = made_on c.args.today c.args.report.now in
    omega (
      arith,
      c.hold.ensures.sums terms.side terms.symbol,
      c.make_rows.ensures.same_lots.sums terms.side terms.symbol,
      c.requires.room terms.side terms.symbol,
    )

pub returns-in_default-clause-positions : goal.returns-in_default-clause-positions
returns-in_default-clause-positions c =
    holds-none c.args.self.now.positions (with_match c.args.report.now.match_id c.args.self.now.trades) (made_on c.args.today c.args.report.now) c.args.waiting.now c.in_default.is c.requires.waiting c.requires.fits.fits

pub returns-clause-positions : goal.returns-clause-positions
returns-clause-positions c =
    holds-both c.args.self.now.positions c.make_rows.new.positions c.hold.new.positions c.hold-2.new.positions (with_match c.args.report.now.match_id c.args.self.now.trades) (made_on c.args.today c.args.report.now)
    c.args.waiting.now c.in-Some.waiting c.in-Some.is c.requires.waiting c.make_rows.ensures.same_lots
    c.hold.ensures.lots c.hold.ensures.sums (rw c.on-terms.ensures at c.hold-2.ensures.lots) c.hold-2.ensures.sums

pub hold-requires-2-clause-row : goal.hold-requires-2-clause-row
hold-requires-2-clause-row c =
    c.hold.ensures.stay c.on-terms.result.account c.on-terms.result.symbol c.in_ok-rows.rows.0 c.in_ok-rows.ensures.first

pub invariant_of-self : goal.invariant_of-self
invariant_of-self c =
    let old = c.args.self.now in
    record { placed = given-either old.trades (made_on c.args.today c.args.report.now) c.requires.fits.new_id c.push.result old.offers old.given_up c.push.new.self old.placed c.push.ensures.taken c.push.ensures.refused }

pub invariant_of-self-2 : goal.invariant_of-self-2
invariant_of-self-2 c =
    let old = c.args.self.now in
    record { placed = given-either old.trades (made_on c.args.today c.args.report.now) c.requires.fits.new_id c.push-2.result old.offers old.given_up c.push-2.new.self old.placed c.push-2.ensures.taken c.push-2.ensures.refused }
