use Rattle.gu_msgs.proofs.PlainTexts.{plain_id}
use Rattle.gu_msgs.proofs.draft.Draft.push_id.Goals as goal

pub push-requires : goal.push-requires
push-requires c = rw c.get.ensures.bytes (plain_id c.args.id c.get.ensures.sound)
