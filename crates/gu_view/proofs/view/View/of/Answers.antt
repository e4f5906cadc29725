use Rattle.std.proofs.Common.{◌∙◌, ap, arith, length, sym}
use Rattle.gu_view.proofs.IndexLemmas.{all_apart, all_within, as_many, distinct, indexed, makes, places_are, shown-is, sound}
use Rattle.gu_view.proofs.MakingLemmas.{good_offers}
use Rattle.gu_view.proofs.view.View.of.Goals as goal

pub all_members-requires-clause-few : goal.all_members-requires-clause-few
all_members-requires-clause-few c =
    let e = c.into_parts-offers.ensures in
    let many = as_many c.args.group c.args.version c.args.offers c.args.rooms.items c.into_parts-offers.result.1.keys c.into_parts-offers.result.2 e.keyed c.requires.keys c.requires.limits in
    (omega (arith, (good_offers c.args.offers e.keyed.numbers).few, c.len.ensures, c.into_parts-offers.result.0.ok.0, ap length e.offers), omega (arith, e.keyed.few, many, c.len-2.ensures, c.args.rooms.ok.0))

pub all_members-requires-clause-within : goal.all_members-requires-clause-within
all_members-requires-clause-within c =
    rw (c.len-2.ensures, c.args.rooms.ok.0)
    (all_within c.args.group c.args.version c.args.offers c.args.rooms.items c.into_parts-offers.result.1.keys c.into_parts-offers.result.2 c.into_parts-offers.ensures.keyed c.requires.keys c.requires.limits)

pub all_members-requires-clause-apart : goal.all_members-requires-clause-apart
all_members-requires-clause-apart c =
    all_apart c.args.group c.args.version c.args.offers c.args.rooms.items c.into_parts-offers.result.1.keys c.into_parts-offers.result.2 c.into_parts-offers.ensures.keyed c.requires.keys c.requires.limits

pub invariant_of-result : goal.invariant_of-result
invariant_of-result c =
    let e = c.into_parts-offers.ensures in
    let offers = c.args.offers in
    let rooms = c.args.rooms.items in
    let keys = c.into_parts-offers.result.1.keys in
    let places = c.into_parts-offers.result.2 in
    let whole = sound c.args.group c.args.version offers rooms keys places e.keyed c.requires.keys c.requires.limits in
    let listed =
    c.in_ok-members.ensures rooms offers (sym c.args.rooms.ok.0 ∙ sym c.len-2.ensures) (distinct _ whole)
    (places_are c.args.group c.args.version offers rooms keys places e.keyed c.requires.keys c.requires.limits) in
    rw e.offers (indexed c.args.group c.args.version offers rooms keys places e.keyed c.requires.keys c.requires.limits c.in_ok-members.members listed)

pub returns-clause-made : goal.returns-clause-made
returns-clause-made c =
    let e = c.into_parts-offers.ensures in
    (λ i. record { group = c.args.group; version = c.args.version; offers = e.offers i; rooms = c.args.rooms.items })
    ∙ shown-is c.args.group c.args.version c.args.offers c.args.rooms.items c.into_parts-offers.result.1.keys c.into_parts-offers.result.2 e.keyed c.requires.keys c.requires.limits

pub returns-clause-accepted : goal.returns-clause-accepted
returns-clause-accepted c =
    makes c.args.group c.args.version c.args.offers c.args.rooms.items c.into_parts-offers.result.1.keys c.into_parts-offers.result.2 c.into_parts-offers.ensures.keyed c.requires.keys c.requires.limits
