use Rattle.gu_offers.proofs.Words.{◌∙◌, ◌++◌, ap, length, map, rules, given_for}
use Rattle.gu_offers.proofs.KeptIds.{given_more, within_more}
use Rattle.gu_offers.proofs.kept_rows.KeptRows.push.Goals as goal

pub invariant_of-self-2 : goal.invariant_of-self-2
invariant_of-self-2 c =
    within_more c.self.inside.ids.items c.args.report.now
    (record { firm = c.args.firm.now; group = c.args.group.now; at = c.len.result; len = length c.get-id.result.now }) (search rules) (search rules) c.self.inside.list.items c.push_lines.new.list.items
    c.extend_from_slice.new.self.items c.args.lines.now c.get-id.ensures.sound c.self.invariant (search rules) (search rules)

pub returns-clause-pushed : goal.returns-clause-pushed
returns-clause-pushed c =
    given_more c.self.inside.ids.items c.args.report.now
    (record { firm = c.args.firm.now; group = c.args.group.now; at = c.len.result; len = length c.get-id.result.now }) (search rules) (search rules)
    c.self.inside.list.items c.push_lines.new.list.items
    c.extend_from_slice.new.self.items c.args.lines.now c.get-id.ensures.sound c.self.invariant (search rules) (search rules)
    ∙ ap (λ rows. rows ++ map (given_for c.args.firm.now c.args.report.now c.args.group.now) c.args.lines.now) c.self.view_is
