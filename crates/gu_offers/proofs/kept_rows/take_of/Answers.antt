use Rattle.gu_offers.proofs.Words.{◌∙◌, ap, arith, taken, given_in, row_of, GivenUp, left_of}
use Rattle.gu_offers.proofs.KeptIds.{is_written, there_in, within_changed}
use Rattle.gu_offers.proofs.Written.{left-fits, one}
use Rattle.gu_offers.proofs.kept_rows.take_of.Goals as goal

pub take-requires-clause-fits : goal.take-requires-clause-fits
take-requires-clause-fits c =
    let there = there_in c.rows.inside.ids.items c.rows.inside.list.items c.args.rows.now c.args.place c.index_mut-given.result.now c.rows.view_is c.requires.inside c.index_mut-given.ensures.value in
    left-fits c.index_mut-given.result.now.is_shut c.index_mut-given.result.now.lots c.index_mut-given.result.now.moved c.args.lots
    (c.requires.left (given_in c.rows.inside.ids.items c.index_mut-given.result.now) there) (c.requires.sound (given_in c.rows.inside.ids.items c.index_mut-given.result.now) there).moved

pub take-requires-clause-today : goal.take-requires-clause-today
take-requires-clause-today c = (c.requires.sound (given_in c.rows.inside.ids.items c.index_mut-given.result.now) (there_in c.rows.inside.ids.items c.rows.inside.list.items c.args.rows.now c.args.place c.index_mut-given.result.now c.rows.view_is c.requires.inside c.index_mut-given.ensures.value)).today

pub invariant_of-rows : goal.invariant_of-rows
invariant_of-rows c = within_changed c.rows.inside.ids.items c.rows.inside.list.items c.args.rows.now c.args.place c.index_mut-given.result.now c.rows.view_is c.requires.inside c.index_mut-given.ensures.value c.rows.invariant c.take.new.self (c.take.ensures.within c.rows.inside.ids.items)

pub returns-clause-written : goal.returns-clause-written
returns-clause-written c =
    is_written c.rows.inside.ids.items c.rows.inside.list.items c.args.rows.now c.args.place c.index_mut-given.result.now c.rows.view_is c.requires.inside c.index_mut-given.ensures.value
    c.take.new.self c.args.day (taken c.args.lots) (c.take.ensures.row c.rows.inside.ids.items) (λ _. omega (arith, c.take.ensures.on))

pub returns-clause-group : goal.returns-clause-group
returns-clause-group c = λ g at.
    ap (λ (x : GivenUp). x.offer.group) (one c.args.rows.now c.args.place (given_in c.rows.inside.ids.items c.index_mut-given.result.now) g (there_in c.rows.inside.ids.items c.rows.inside.list.items c.args.rows.now c.args.place c.index_mut-given.result.now c.rows.view_is c.requires.inside c.index_mut-given.ensures.value) at)

pub returns-clause-left : goal.returns-clause-left
returns-clause-left c = λ g at.
    c.left.ensures ∙ ap left_of (c.take.ensures.row c.rows.inside.ids.items)
    ∙ ap (λ x. left_of (taken c.args.lots (row_of c.args.day x)))
    (one c.args.rows.now c.args.place (given_in c.rows.inside.ids.items c.index_mut-given.result.now) g (there_in c.rows.inside.ids.items c.rows.inside.list.items c.args.rows.now c.args.place c.index_mut-given.result.now c.rows.view_is c.requires.inside c.index_mut-given.ensures.value) at)
