use Rattle.gu_msgs.proofs.PlainTexts.{plain_moment}
use Rattle.gu_msgs.proofs.draft.Draft.push_moment.Goals as goal

pub push-requires : goal.push-requires
push-requires c = plain_moment c.args.moment.now c.text.result c.text.ensures
