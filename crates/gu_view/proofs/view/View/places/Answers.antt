use Rattle.gu_view.proofs.RoomLemmas.{places_are_within}
use Rattle.gu_view.proofs.view.View.places.Goals as goal

pub returns-clause-within : goal.returns-clause-within
returns-clause-within c =
    rw (← c.self.view_is)
    (places_are_within _ c.self.invariant.sound c.self.inside.places c.args.offer c.list.result.now (rw (← c.self.view_is) at c.requires) c.self.invariant.places_are c.list.ensures)
