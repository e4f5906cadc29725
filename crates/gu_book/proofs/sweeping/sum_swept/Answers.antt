use Rattle.gu_book.proofs.Words.{◌+◌, arith, sum_by-take-le, swept_by}
use Rattle.gu_rules.proofs.SweptLots.{next-swept}
use Rattle.gu_book.proofs.sweeping.sum_swept.Goals as goal

pub overflow_add-lots : goal.overflow_add-lots
overflow_add-lots c =
    let history = c.args.history.now in
    omega (
      arith,
      c.requires,
      c.loop-place.invariant,
      next-swept history c.loop-place.place c.lots_at-lots.result c.lots_at-lots.ensures,
      sum_by-take-le swept_by history (c.loop-place.place + 1),
    )

pub loop-place-preserved : goal.loop-place-preserved
loop-place-preserved c = omega (arith, c.loop-place.invariant, next-swept c.args.history.now c.loop-place.place c.lots_at-lots.result c.lots_at-lots.ensures)
