use Rattle.gu_view.proofs.SameViews.{view_eq-Decides}
use Rattle.gu_view.proofs.view.View.is_same.Goals as goal

pub returns : goal.returns
returns c =
    rw (c.eq.ensures, c.offers.ensures.offers, c.offers-2.ensures.offers, c.rooms.ensures.rooms, c.rooms-2.ensures.rooms, ← c.self.view_is, ← c.other.view_is)
    (view_eq-Decides _ _)
