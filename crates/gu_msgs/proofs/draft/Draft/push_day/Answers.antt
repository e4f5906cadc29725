use Rattle.gu_msgs.proofs.PlainTexts.{plain_date}
use Rattle.gu_msgs.proofs.draft.Draft.push_day.Goals as goal

pub push-requires : goal.push-requires
push-requires c = rw c.text.ensures.text (plain_date c.args.day.year c.args.day.month c.args.day.day)
