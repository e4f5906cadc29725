use Rattle.gu_view.proofs.Words.{arith, ◌∙◌, ap, sym, length, refl, lots_of}
use Rattle.gu_view.proofs.MarkLemmas.{fresh_marks}
use Rattle.gu_view.proofs.Checked.{verdict_known}
use Rattle.gu_view.proofs.checker.answer.Goals as goal

pub mark_keys-requires : goal.mark_keys-requires
mark_keys-requires c =
    fresh_marks c.args.view.now.rooms _ 20480 (ap length c.rooms.ensures.rooms) (omega (arith, ap length c.rooms.ensures.rooms, c.rooms.ensures.sound.few_rooms))

pub mark_offers-requires-clause-fresh : goal.mark_offers-requires-clause-fresh
mark_offers-requires-clause-fresh c =
    fresh_marks c.offers-offers.result.now _ 4096 refl (omega (arith, ap length c.offers-offers.ensures.offers, c.offers-offers.ensures.sound.few))

pub returns-clause-verdict : goal.returns-clause-verdict
returns-clause-verdict c =
    let offers = c.offers-offers.ensures.offers in
    let takes = c.as_slice.ensures.takes in
    verdict_known c.args.view.now c.args.takes.now c.args.cut.now c.check_marked.result
    (rw (offers, takes) at (sym c.fill_lots.ensures.unknown ∙ c.in_default.is))
    (rw c.keys.ensures.keys at (sym c.mark_keys.ensures.unknown ∙ c.in_default-mark_keys.is))
    (rw (offers, c.offers.ensures.offers) at (sym c.mark_offers.ensures.unknown ∙ c.in_default-mark_offers.is))
    (c.check_marked.ensures (lots_of c.args.takes.now) c.args.cut.now (record {
      taken_are = rw (offers, takes) at c.in_default.ensures.lots;
      keys_are = rw c.keys.ensures.keys at c.in_default-mark_keys.ensures.marks;
      numbers_are = rw (offers, c.offers.ensures.offers) at c.in_default-mark_offers.ensures.marks;
    }))
