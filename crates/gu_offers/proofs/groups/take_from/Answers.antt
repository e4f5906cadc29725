use Rattle.std.proofs.Common.{◌∙◌, sym}
use Rattle.gu_offers.proofs.NumberLists.{found-without, unfound-without}
use Rattle.gu_offers.proofs.groups.take_from.Goals as goal

pub returns-in-Ok : goal.returns-in-Ok
returns-in-Ok c = c.remove.ensures.items ∙ found-without c.args.number c.args.numbers.now.items c.in-Ok.at c.requires (rw (← c.deref.ensures.value) c.in-Ok.ensures.position)

pub returns-in_default : goal.returns-in_default
returns-in_default c = sym (unfound-without c.args.number c.args.numbers.now.items c.in_default.field-0 c.requires (rw (← c.deref.ensures.value) c.in_default.ensures.position))
