use Rattle.std.proofs.Common.{rules}
use Rattle.gu_view.proofs.RoomLemmas.{position-keys}
use Rattle.gu_view.proofs.view.View.place.Goals as goal

pub returns-clause-place : goal.returns-clause-place
returns-clause-place c =
    rw (← c.self.view_is, c.get_index_of.ensures.index, c.self.invariant.keys_are)
    (position-keys _ c.self.inside.rooms.items c.args.key (λ j. search rules))
