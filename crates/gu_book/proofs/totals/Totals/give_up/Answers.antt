use Rattle.gu_book.proofs.Words.{◌==◌, ◌+◌, ◌++◌, ◌∙◌, List, ap, arith, if◌then◌else◌, length, subst, sym, Line, Row}
use Rattle.std.specs.Prelude.{replicate, slice_index}
use Rattle.gu_book.specs.GivenUp.{AreGivenUp}
use Rattle.gu_book.proofs.GivenUpLemmas.{given-offered, given-same, held-few}
use Rattle.gu_ref.proofs.Lookups.{inserted}
use Rattle.gu_book.specs.contracts.totals.GiveUpKeyEq.TheImpl.Laws as laws
use Rattle.gu_book.proofs.totals.Totals.give_up.Goals as goal

pub returns-clause-give_ups : goal.returns-clause-give_ups
returns-clause-give_ups c = inserted _ laws.laws-law c.reserve.new.self.keys c.args.self.now.give_ups.keys _ c.insert.new.self.keys c.reserve.ensures.keys c.requires.new_id c.in_ok-insert.ensures.keys

pub add-requires-clause-fits : goal.add-requires-clause-fits
add-requires-clause-fits c =
    let old = c.args.self.now in
    omega (
      arith,
      c.reserve-2.ensures.lots c.args.report,
      held-few old.trades old.offers old.given_up c.args.asked.now.firm c.args.asked.now.report c.args.report old.placed c.requires.report c.rules-2.ensures.sound,
      c.rules-2.ensures.few,
      c.lots.ensures.most,
    )

pub invariant_of-self-2 : goal.invariant_of-self-2
invariant_of-self-2 c =
    let old = c.args.self.now in
    let asked = c.args.asked.now in
    let made = c.reserve-2.new.self in
    record {
      placed = subst (λ (rows : List Row). AreGivenUp old.trades rows c.add.new.self) (sym c.in_ok-give_up.ensures.offered)
          (given-offered old.trades old.offers made asked.firm asked.report c.args.report
          (given-same old.trades old.offers old.given_up made old.placed c.reserve-2.ensures.report_of c.reserve-2.ensures.lots)
          c.requires.report c.args.group.now asked.lines c.add.new.self c.rules.ensures.sound.once
          (c.add.ensures.report_of ∙ ap (λ (lines : List Line). made.report_of.items ++ replicate (length lines) c.args.report) c.as_slice-count.ensures.lines)
          (λ number. c.add.ensures.lots number ∙ ap (λ n. slice_index made.lots.items number + (if number == c.args.report then n else 0)) c.lots.ensures.lots));
    }
