use Rattle.gu_msgs.proofs.Words.{tag_value, ◌∙◌}
use Rattle.gu_msgs.proofs.GroupLemmas.{entry_in_front}
use Rattle.gu_msgs.proofs.groups.next_entry.Goals as goal

pub returns-then-field-first : goal.returns-then-field-first
returns-then-field-first c =
    let inv = c.loop-field.invariant in
    let field = tag_value c.in-Some.field.tag c.in-Some.field.value.now in
    let front = entry_in_front c.args.first c.loop-field.here c.next.new.self field c.len.result c.left_from_tag.result (inv.ahead ∙ c.in-Some.ensures.steps) c.if-field-first.true c.len.ensures c.left_from_tag.ensures in
    cc (front, inv.same, inv.ahead, c.first.ensures.first)
