use Rattle.gu_offers.proofs.Words.{arith, reversed, given_in}
use Rattle.gu_offers.proofs.KeptIds.{is_written, there_in, within_changed}
use Rattle.gu_offers.proofs.kept_rows.reverse_of.Goals as goal

pub reverse-requires : goal.reverse-requires
reverse-requires c = (c.requires.sound (given_in c.rows.inside.ids.items c.index_mut.result.now) (there_in c.rows.inside.ids.items c.rows.inside.list.items c.args.rows.now c.args.place c.index_mut.result.now c.rows.view_is c.requires.inside c.index_mut.ensures.value)).today

pub invariant_of-rows : goal.invariant_of-rows
invariant_of-rows c = within_changed c.rows.inside.ids.items c.rows.inside.list.items c.args.rows.now c.args.place c.index_mut.result.now c.rows.view_is c.requires.inside c.index_mut.ensures.value c.rows.invariant c.reverse.new.self (c.reverse.ensures.within c.rows.inside.ids.items)

pub returns : goal.returns
returns c =
    is_written c.rows.inside.ids.items c.rows.inside.list.items c.args.rows.now c.args.place c.index_mut.result.now c.rows.view_is c.requires.inside c.index_mut.ensures.value
    c.reverse.new.self c.args.day reversed (c.reverse.ensures.row c.rows.inside.ids.items)
    (λ before. omega (arith, c.reverse.ensures.on, before))
