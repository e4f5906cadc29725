use Rattle.gu_book.proofs.Words.{◌≡◌, ◌<◌, List, subst, sym, Row, left_in, today_in, LimitKey, Returns, MayReturn, GroupLimit}
use Rattle.gu_book.specs.GivenUp.{AreGivenUp}
use Rattle.gu_book.proofs.GivenUpLemmas.{given-reversed, moved-known, number-within, reversed-held}
use Rattle.gu_book.proofs.totals.Totals.reverse.Goals as goal

pub returns-clause-limits : goal.returns-clause-limits
returns-clause-limits c =
    let it = c.args.returned.now in
    subst (λ (limits : List GroupLimit). (keys : List LimitKey) → MayReturn limits it.group keys it.lots it.limits → Returns limits c.give_back_at.new.self it.group keys it.lots) c.make_way.ensures.same.limits
    (c.give_back_at.ensures it.group)

pub report-report-requires : goal.report-report-requires
report-report-requires c =
    let made = c.make_way.new.self in
    let n = c.args.returned.now.number in
    number-within made.trades made.offers made.given_up made.placed n
    (moved-known made.offers n (subst (λ (rows : List Row). 0 < today_in rows n) (sym c.make_way.ensures.same.offers) c.requires.moved))

pub take-requires : goal.take-requires
take-requires c =
    let made = c.make_way.new.self in
    let n = c.args.returned.now.number in
    let same = sym c.make_way.ensures.same.offers in
    reversed-held made.trades made.offers made.given_up made.placed c.rules.ensures.sound.once c.rules-2.ensures.sound n c.report-report.result
    (moved-known made.offers n (subst (λ (rows : List Row). 0 < today_in rows n) same c.requires.moved)) c.report-report.ensures
    c.moved_today-lots.result c.moved_today-lots.ensures (subst (λ (rows : List Row). left_in rows n ≡ 0) same c.requires.closed)

pub invariant_of-self : goal.invariant_of-self
invariant_of-self c =
    let made = c.make_way.new.self in
    let n = c.args.returned.now.number in
    let same = sym c.make_way.ensures.same.offers in
    record {
      placed = subst (λ (rows : List Row). AreGivenUp made.trades rows c.take.new.self) (sym c.reverse.ensures)
          (given-reversed made.trades made.offers made.given_up made.placed c.rules.ensures.sound.once c.rules-2.ensures.sound n c.report-report.result
          (moved-known made.offers n (subst (λ (rows : List Row). 0 < today_in rows n) same c.requires.moved)) c.report-report.ensures
          c.moved_today-lots.result c.moved_today-lots.ensures (subst (λ (rows : List Row). left_in rows n ≡ 0) same c.requires.closed) c.take.new.self c.take.ensures.report_of c.take.ensures.lots);
    }
