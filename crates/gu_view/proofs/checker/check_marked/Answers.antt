use Rattle.gu_view.proofs.Words.{rules, arith, ◌≡◌, ◌∙◌, sym, None, over_offer}
use Rattle.gu_view.proofs.Checked.{lots_small, keys_small, offers_small, known_ok, known_differs}
use Rattle.gu_view.proofs.checker.check_marked.Goals as goal

pub over_limit-requires-clause-fits : goal.over_limit-requires-clause-fits
over_limit-requires-clause-fits c = omega (arith, rw c.offers.ensures.offers at c.in_default.ensures.within, lots_small c.args.view.now c.offers.ensures.sound)

pub sum_of-lots-requires : goal.sum_of-lots-requires
sum_of-lots-requires c = omega (arith, rw c.offers.ensures.offers at c.in_default.ensures.within, lots_small c.args.view.now c.offers.ensures.sound)

pub room_in_keys-requires : goal.room_in_keys-requires
room_in_keys-requires c = rw c.rooms.ensures.rooms (omega (arith, keys_small c.args.view.now c.args.keys.now c.rooms.ensures.sound))

pub room_in_offers-requires : goal.room_in_offers-requires
room_in_offers-requires c = rw c.offers-2.ensures.offers (omega (arith, offers_small c.args.view.now c.args.numbers.now c.rooms.ensures.sound))

pub overflow_add-room_in_keys : goal.overflow_add-room_in_keys
overflow_add-room_in_keys c =
    omega (
      arith,
      rw c.rooms.ensures.rooms at c.room_in_keys.ensures,
      rw c.offers-2.ensures.offers at c.room_in_offers.ensures,
      keys_small c.args.view.now c.args.keys.now c.rooms.ensures.sound,
      offers_small c.args.view.now c.args.numbers.now c.rooms.ensures.sound,
    )

pub returns-in-Some-first_uncovered : goal.returns-in-Some-first_uncovered
returns-in-Some-first_uncovered c = search rules

pub returns-then-lots-room_in_keys : goal.returns-then-lots-room_in_keys
returns-then-lots-room_in_keys c lots cut marked =
    let over : over_offer c.args.view.now.offers lots ≡ None = rw c.offers.ensures.offers at (sym (c.over_offer.ensures.first lots (rw c.offers.ensures.offers marked.taken_are)) ∙ c.in_default.is) in
    known_ok c.args.view.now c.args.taken.now c.args.keys.now c.args.numbers.now lots cut marked c.sum_of-lots.result c.room_in_keys.result c.room_in_offers.result
    over (sym (c.over_limit.ensures lots marked.taken_are) ∙ c.in_default-over_limit.is) (sym (c.not_oldest_first.ensures lots marked.taken_are) ∙ c.in_default-not_oldest_first.is) (sym (c.first_uncovered.ensures cut marked.keys_are marked.numbers_are) ∙ c.in_default-first_uncovered.is)
    c.sum_of-lots.ensures (rw c.rooms.ensures.rooms at c.room_in_keys.ensures) (rw c.offers-2.ensures.offers at c.room_in_offers.ensures) c.if-lots-room_in_keys.true

pub returns-else-lots-room_in_keys : goal.returns-else-lots-room_in_keys
returns-else-lots-room_in_keys c lots cut marked =
    let over : over_offer c.args.view.now.offers lots ≡ None = rw c.offers.ensures.offers at (sym (c.over_offer.ensures.first lots (rw c.offers.ensures.offers marked.taken_are)) ∙ c.in_default.is) in
    known_differs c.args.view.now c.args.taken.now c.args.keys.now c.args.numbers.now lots cut marked c.sum_of-lots.result c.room_in_keys.result c.room_in_offers.result
    over (sym (c.over_limit.ensures lots marked.taken_are) ∙ c.in_default-over_limit.is) (sym (c.not_oldest_first.ensures lots marked.taken_are) ∙ c.in_default-not_oldest_first.is) (sym (c.first_uncovered.ensures cut marked.keys_are marked.numbers_are) ∙ c.in_default-first_uncovered.is)
    c.sum_of-lots.ensures (rw c.rooms.ensures.rooms at c.room_in_keys.ensures) (rw c.offers-2.ensures.offers at c.room_in_offers.ensures) c.if-lots-room_in_keys.false
