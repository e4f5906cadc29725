use Rattle.std.proofs.Common.{arith, ap, length}
use Rattle.gu_view.proofs.MarkLemmas.{fresh_marks}
use Rattle.gu_view.proofs.takes.not_oldest_first.Goals as goal

pub first_too_early-requires-clause-fresh : goal.first_too_early-requires-clause-fresh
first_too_early-requires-clause-fresh c =
    fresh_marks c.args.view.now.rooms _ 20480 (ap length c.rooms.ensures.rooms) (omega (arith, ap length c.rooms.ensures.rooms, c.rooms.ensures.sound.few_rooms))
