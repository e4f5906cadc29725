use Rattle.gu_terms.proofs.Placed.{named_at_place}
use Rattle.gu_terms.proofs.takes.is_at.Goals as goal

pub returns-then-place-takes : goal.returns-then-place-takes
returns-then-place-takes c = named_at_place c.args.takes.now c.args.place c.args.offer c.index-takes-place.result _ c.requires.ascending c.requires.place c.if-place-takes.true c.eq.ensures
