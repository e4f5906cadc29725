use Rattle.gu_offers.proofs.Words.{◌∙◌, ◌++◌, Some, ap, refl, subst, range_with_len, Updates, same_group}
use Rattle.gu_offers.proofs.KeptTables.{listed-new, listed-same, on_err}
use Rattle.gu_offers.proofs.groups.Groups.append.Goals as goal

pub returns-in-Some-clause-refused : goal.returns-in-Some-clause-refused
returns-in-Some-clause-refused c =
    on_err c.append_to.result _ _
    (listed-same (λ v. v.items) c.args.self.now.numbers (c.get_mut.follows.lender c.append_to.new.numbers) c.args.group.now c.in-Some.numbers.now c.append_to.new.numbers
    ((c.get_mut.follows.holds c.append_to.new.numbers).3 (rw (← c.in-Some.ensures.value) refl)) c.in-Some.ensures.value)
    c.append_to.ensures.refused

pub returns-clause-appended : goal.returns-clause-appended
returns-clause-appended c =
    let items = c.in_ok-append_to.ensures.appended ∙ ap (λ l. l ++ range_with_len c.args.first c.args.count) c.new-numbers.ensures.items in
    let updated = subst (λ lists. Updates same_group lists c.insert.new.self c.args.group.now (Some c.append_to-2.new.numbers)) c.get_mut.follows.holds-at-none c.in_ok-insert.ensures.updates in
    listed-new (λ v. v.items) c.args.self.now.numbers c.insert.new.self c.args.group.now c.append_to-2.new.numbers (range_with_len c.args.first c.args.count) updated items c.in_default.ensures.value
