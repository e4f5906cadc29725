use Rattle.gu_book.proofs.Words.{List, refl, subst, sym, Row}
use Rattle.gu_book.specs.GivenUp.{AreGivenUp}
use Rattle.gu_book.proofs.GivenUpLemmas.{given-taken}
use Rattle.gu_book.proofs.totals.Totals.carry_out.Goals as goal

pub charge_at-requires : goal.charge_at-requires
charge_at-requires c = (c.args.claimed.now.group, c.requires.may.keys, c.requires.may.room)

pub invariant_of-self : goal.invariant_of-self
invariant_of-self c =
    let old = c.args.self.now in
    let it = c.args.claimed.now in
    record {
      placed = subst (λ (rows : List Row). AreGivenUp old.trades rows old.given_up) (sym c.take.ensures)
          (given-taken old.trades old.offers old.given_up it.number it.lots old.placed c.requires.may.left);
    }

pub returns : goal.returns
returns c = record {
  entries = record { today = refl; trades = refl; give_ups = refl };
  offers = c.take.ensures;
  limits = c.charge_at.ensures c.args.claimed.now.group;
  positions = c.move_over.ensures.moved;
  stay = c.move_over.ensures.stay;
}
