use Rattle.gu_view.proofs.Words.{take, AreMentioned}
use Rattle.gu_view.proofs.keyed_offers.mention_all.Given as goal

abbrev pub invariant-loop-at : goal.invariant-loop-at
invariant-loop-at l = AreMentioned (take l.at l.offers) l.keys.keys l.places
