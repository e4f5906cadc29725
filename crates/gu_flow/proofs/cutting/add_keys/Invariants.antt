use Rattle.gu_flow.proofs.Words.{◌≡◌, false, AreKeysCut, AreNoOffersCut, is_reached}
use Rattle.gu_flow.proofs.cutting.add_keys.Given as goal

abbrev pub invariant-loop-place : goal.invariant-loop-place
invariant-loop-place l = record {
  keys : AreKeysCut l.view (is_reached l.marks) l.arcs l.cut.keys l.place;
  offers : l.cut.offers ≡ l.fn.cut.offers;
  none : l.more ≡ false → AreNoOffersCut (is_reached l.marks) l.arcs l.view.rooms l.place;
}
