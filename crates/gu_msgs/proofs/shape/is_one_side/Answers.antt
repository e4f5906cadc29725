use Rattle.gu_msgs.proofs.Words.{sym, ◌∙◌, eqb-true, tag_value}
use Rattle.gu_msgs.proofs.GroupFaults.{one_digit, one_side_faultless}
use Rattle.gu_msgs.proofs.shape.is_one_side.Goals as goal

pub returns : goal.returns
returns c has =
    one_side_faultless c.args.text.now c.args.group.now (tag_value c.get-side.result.tag c.get-side.result.value.now) (tag_value c.get-account.result.tag c.get-account.result.value.now)
    (one_digit c.args.text.now c.if-text-ne1.false c.if-text-ne49.false) (sym c.len.ensures ∙ c.if-len-ne2.false) c.get-side.ensures c.get-account.ensures c.if-side-ne-SIDE.false
    (eqb-true c.get-account.result.tag 1 has)
