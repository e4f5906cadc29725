use Rattle.gu_msgs.proofs.Words.{◌∙◌, is_listed, outer_rows}
use Rattle.gu_msgs.proofs.GroupLemmas.{first_up_to}
use Rattle.gu_msgs.proofs.groups.up_to_outer.Goals as goal

pub returns-clause-fields : goal.returns-clause-fields
returns-clause-fields c =
    c.first.ensures.first ∙ first_up_to (is_listed (outer_rows c.args.msg_type)) c.args.fields.now c.len.result c.left_from_outer.result c.len.ensures c.left_from_outer.ensures
