use Rattle.gu_flow.proofs.Words.{◌≡◌, AreOffersCut, is_reached}
use Rattle.gu_flow.proofs.cutting.add_offers.Given as goal

abbrev pub invariant-loop-number : goal.invariant-loop-number
invariant-loop-number l = record {
  offers : AreOffersCut l.view (is_reached l.marks) l.arcs l.cut.offers l.number;
  keys : l.cut.keys ≡ l.fn.cut.keys;
}
