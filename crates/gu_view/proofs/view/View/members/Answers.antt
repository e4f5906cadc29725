use Rattle.gu_view.proofs.RoomLemmas.{members_are_within}
use Rattle.gu_view.proofs.view.View.members.Goals as goal

pub returns-clause-within : goal.returns-clause-within
returns-clause-within c =
    rw (← c.self.view_is)
    (members_are_within c.self.inside.offers.items c.self.inside.rooms.items c.self.inside.members c.args.room c.list.result.now (rw (← c.self.view_is) at c.requires) c.self.invariant.members_are c.list.ensures)
