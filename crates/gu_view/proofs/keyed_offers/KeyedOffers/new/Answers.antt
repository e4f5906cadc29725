use Rattle.std.proofs.Common.{arith, ap, length}
use Rattle.gu_view.proofs.MakingLemmas.{even_paths, good_offers}
use Rattle.gu_view.proofs.keyed_offers.KeyedOffers.new.Goals as goal

pub keyed-requires-clause-few : goal.keyed-requires-clause-few
keyed-requires-clause-few c = omega (arith, (good_offers c.args.offers.items c.requires.numbers).few, ap length c.deref.ensures.value)

pub keyed-requires-clause-own : goal.keyed-requires-clause-own
keyed-requires-clause-own c =
    let offers = c.args.offers.items in
    rw c.deref.ensures.value (even_paths offers (good_offers offers c.requires.numbers).ascending c.requires.paths).own

pub keyed-requires-clause-one_path : goal.keyed-requires-clause-one_path
keyed-requires-clause-one_path c =
    let offers = c.args.offers.items in
    rw c.deref.ensures.value (even_paths offers (good_offers offers c.requires.numbers).ascending c.requires.paths).one_path

pub invariant_of-result : goal.invariant_of-result
invariant_of-result c =
    let given = c.deref.ensures.value in
    let made = c.in_ok-keys.ensures in
    let few = (good_offers c.args.offers.items c.requires.numbers).few in
    record {
      numbers = c.requires.numbers;
      paths = c.requires.paths;
      whole = rw given at made.whole;
      keys_are = rw given at made.keys_are;
      few = omega (arith, few, made.few, ap length given);
      places_are = rw given at made.places_are;
    }
