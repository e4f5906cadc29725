use Rattle.gu_view.proofs.TakesLemmas.{agreement_at, two_places, agreement_is}
use Rattle.gu_view.proofs.view.View.agreement_place.Goals as goal

pub bounds-places-1 : goal.bounds-places-1
bounds-places-1 c =
    two_places c.args.self.now.offers c.args.self.now.rooms c.args.offer c.places.result.now c.requires
    (agreement_at c.args.self.now c.places.ensures.sound c.args.offer c.places.result.now c.requires c.places.ensures.places)

pub returns-clause-place : goal.returns-clause-place
returns-clause-place c =
    agreement_is c.args.self.now.offers c.args.self.now.rooms c.args.offer c.places.result.now
    (agreement_at c.args.self.now c.places.ensures.sound c.args.offer c.places.result.now c.requires c.places.ensures.places)

pub returns-clause-within : goal.returns-clause-within
returns-clause-within c =
    c.places.ensures.within 1 0
    (two_places c.args.self.now.offers c.args.self.now.rooms c.args.offer c.places.result.now c.requires
    (agreement_at c.args.self.now c.places.ensures.sound c.args.offer c.places.result.now c.requires c.places.ensures.places))
